-- What comes before what, and where the items of an ordered list stand.
use Rattle.std.proofs.Common.{◌≡◌, ℕ, zero, suc, ◌+◌, ◌<◌, ◌≤◌, ◌⊎◌, inl, inr, List, [], ◌∷◌, refl, Bool, true, false, cond, ◌&&◌, ◌||◌, arith, sym, ◌∙◌, ap, subst, map, length, get_or, take}
use Rattle.std.specs.Bool.{IsTrue, nat_lt, ◌==◌}
use Rattle.std.specs.List.{Contains, AllPairs, filter, sum, sum_by}
use Rattle.std.specs.List.Sorted.{IsPermutation}
use Rattle.std.proofs.lemmas.Bool.{cases_Bool, cases_eq}
use Rattle.std.proofs.lemmas.Bool.Decides.{nat_tests}
use Rattle.std.proofs.lemmas.List.{get_or_default, length-map, take-map}
use Rattle.std.proofs.lemmas.List.Sums.{sum_by-cons, sum-map}
use Rattle.std.proofs.lemmas.List.Sorted.{sum_by-IsPermutation}
use Rattle.pci_spec.specs.Slot.{slot_number}
use Rattle.pci_spec.specs.System.{register_of}
use Rattle.plan_spec.specs.Place.{Item, comes_before, place_from}
use Rattle.plan_spec.specs.Planning.Placing.{starts}
use Rattle.plan_spec.specs.Planning.Sorted.{StandsBefore}
use Rattle.pci_spec.proofs.Members.{in_head, in_tail}
use Rattle.plan_spec.proofs.Planning.Placement.{sum_cons}

-- ---- the order, by size, slot and register

abbrev earlier : ℕ → ℕ → ℕ → ℕ → ℕ → ℕ → Bool
earlier a b s t q r = nat_lt b a || (a == b && (nat_lt s t || (s == t && nat_lt q r)))

earlier_itself : (a s q : ℕ) → earlier a a s s q q ≡ false
earlier_itself a s q = grind (arith, nat_tests)

earlier_once : (a b s t q r : ℕ) → earlier a b s t q r ≡ true → earlier b a t s r q ≡ false
earlier_once a b s t q r h = grind (arith, nat_tests)

earlier_falls : (a b s t q r : ℕ) → earlier a b s t q r ≡ true → b ≤ a
earlier_falls a b s t q r h = grind (arith, nat_tests)

earlier_larger : (a b s t q r : ℕ) → b < a → earlier a b s t q r ≡ true
earlier_larger a b s t q r less = grind (arith, nat_tests)

earlier_by : (a b s t q r : ℕ) → (s < t) ⊎ ((s ≡ t) × (q < r)) → b ≤ a → earlier a b s t q r ≡ true
earlier_by a b s t q r h le = grind (arith, nat_tests)

earlier_else : (a b s t q r : ℕ) → (s < t) ⊎ ((s ≡ t) × (q < r)) → earlier a b s t q r ≡ false → earlier b a t s r q ≡ true
earlier_else a b s t q r h other = grind (arith, nat_tests)

earlier_trans : (a b c s t u q r v : ℕ) → earlier a b s t q r ≡ true → earlier b c t u r v ≡ true → earlier a c s u q v ≡ true
earlier_trans a b c s t u q r v h k = grind (arith, nat_tests)

abbrev slot_at : Item → ℕ
slot_at i = slot_number i.function.slot

abbrev register_at : Item → ℕ
register_at i = register_of i.function i.part

pub before_itself : (i : Item) → comes_before i i ≡ false
before_itself i = earlier_itself i.size (slot_at i) (register_at i)

pub before_once : (i j : Item) → comes_before i j ≡ true → comes_before j i ≡ false
before_once i j h = earlier_once i.size j.size (slot_at i) (slot_at j) (register_at i) (register_at j) h

pub before_falls : (i j : Item) → comes_before i j ≡ true → j.size ≤ i.size
before_falls i j h = earlier_falls i.size j.size (slot_at i) (slot_at j) (register_at i) (register_at j) h

pub before_larger : (i j : Item) → j.size < i.size → comes_before i j ≡ true
before_larger i j less = earlier_larger i.size j.size (slot_at i) (slot_at j) (register_at i) (register_at j) less

-- what stands before another item comes before it unless it is smaller
pub before_by : (i j : Item) → StandsBefore i j → j.size ≤ i.size → comes_before i j ≡ true
before_by i j h le = earlier_by i.size j.size (slot_at i) (slot_at j) (register_at i) (register_at j) h le

pub before_else : (i j : Item) → StandsBefore i j → comes_before i j ≡ false → comes_before j i ≡ true
before_else i j h other = earlier_else i.size j.size (slot_at i) (slot_at j) (register_at i) (register_at j) h other

pub before_trans : (i j k : Item) → comes_before i j ≡ true → comes_before j k ≡ true → comes_before i k ≡ true
before_trans i j k h g = earlier_trans i.size j.size k.size (slot_at i) (slot_at j) (slot_at k) (register_at i) (register_at j) (register_at k) h g

-- ---- sums over parts of a list

pub sum_filter : {X : Type 0} (f : X → ℕ) (p : X → Bool) (xs : List X) → sum_by f (filter p xs) ≡ sum_by (λ x. cond (p x) (f x) 0) xs
sum_filter f p [] = refl
sum_filter f p (x ∷ xs) =
    let rest = sum_filter f p xs in
    let c = sum_by-cons (λ y. cond (p y) (f y) 0) x xs in
    elim (cases_Bool (p x)) [
      | inl kept ↦
          let e = ap (λ b. sum_by f (cond b (x ∷ filter p xs) (filter p xs))) kept in
          let a = sum_by-cons f x (filter p xs) in
          let t = ap (λ b. cond b (f x) 0) kept in
          omega (arith, e, a, c, rest, t)
      | inr left ↦
          let e = ap (λ b. sum_by f (cond b (x ∷ filter p xs) (filter p xs))) left in
          let t = ap (λ b. cond b (f x) 0) left in
          omega (arith, e, c, rest, t)
    ]

pub sum_same : {X : Type 0} (f g : X → ℕ) (xs : List X) → ((x : X) → Contains xs x → f x ≡ g x) → sum_by f xs ≡ sum_by g xs
sum_same f g [] same = refl
sum_same f g (x ∷ xs) same =
    let a = sum_by-cons f x xs in
    let b = sum_by-cons g x xs in
    let here = same x (in_head x xs) in
    let rest = sum_same f g xs (λ y listed. same y (in_tail x xs y listed)) in
    omega (arith, a, b, here, rest)

-- a sum whose terms are 0 from k on, and others' before
pub sum_front : {X : Type 0} (f g : X → ℕ) (xs : List X) (k : ℕ) → ((j : ℕ) (d : X) → j < k → j < length xs → f (get_or xs j d) ≡ g (get_or xs j d))
    → ((j : ℕ) (d : X) → k ≤ j → j < length xs → f (get_or xs j d) ≡ 0) → sum_by f xs ≡ sum_by g (take k xs)
sum_front f g [] zero front rest = refl
sum_front f g [] (suc k) front rest = refl
sum_front f g (x ∷ xs) zero front rest =
    let a = sum_by-cons f x xs in
    let here = rest 0 x (omega arith) (omega arith) in
    let more = sum_front f g xs zero (λ j d below l. absurd (let impossible : ⊥ = omega (arith, below) in impossible)) (λ j d above l. rest (suc j) d (omega arith) (omega (arith, l))) in
    omega (arith, a, here, more)
sum_front f g (x ∷ xs) (suc k) front rest =
    let a = sum_by-cons f x xs in
    let b = sum_by-cons g x (take k xs) in
    let here = front 0 x (omega arith) (omega arith) in
    let more = sum_front f g xs k (λ j d below l. front (suc j) d (omega (arith, below)) (omega (arith, l))) (λ j d above l. rest (suc j) d (omega (arith, above)) (omega (arith, l))) in
    omega (arith, a, b, here, more)

-- ---- one ordered list

pub starts_sum : (start : ℕ) (sizes : List ℕ) (k : ℕ) → k < length sizes → get_or (starts start sizes) k 0 ≡ start + sum (take k sizes)
starts_sum start [] k l = absurd (let impossible : ⊥ = omega (arith, l) in impossible)
starts_sum start (x ∷ xs) zero l = omega arith
starts_sum start (x ∷ xs) (suc k) l =
    let rest = starts_sum (start + x) xs k (omega (arith, l)) in
    let c = sum_cons x (take k xs) in
    omega (arith, rest, c)

-- what comes before the k-th item of an ordered list are the first k
module _ (sorted : List Item) (ordered : AllPairs (λ i j. IsTrue (comes_before i j)) sorted) (k : ℕ) (d : Item) (l : k < length sorted) where
  earlier_one : (j : ℕ) (e : Item) → j < k → comes_before (get_or sorted j e) (get_or sorted k d) ≡ true
  earlier_one j e below = subst (λ x. comes_before (get_or sorted j e) x ≡ true) (get_or_default sorted k e d l) (ordered j k e below l)

  later_one : (j : ℕ) (e : Item) → k ≤ j → j < length sorted → comes_before (get_or sorted j e) (get_or sorted k d) ≡ false
  later_one j e above in_j = elim (cases_eq k j) [
    | inl here ↦ subst (λ x. comes_before x (get_or sorted k d) ≡ false) (get_or_default sorted k d e l ∙ ap (λ n. get_or sorted n e) here) (before_itself (get_or sorted k d))
    | inr other ↦ subst (λ x. comes_before (get_or sorted j e) x ≡ false) (get_or_default sorted k e d l)
        (before_once (get_or sorted k e) (get_or sorted j e) (ordered k j e (omega (arith, above, other)) in_j))
  ]

-- so it stands where a list of the sizes in that order has it
pub place_by_sum : (start : ℕ) (items sorted : List Item) (k : ℕ) (d : Item) → IsPermutation items sorted → AllPairs (λ i j. IsTrue (comes_before i j)) sorted → k < length sorted
    → place_from start items (get_or sorted k d) ≡ start + sum (take k (map (λ (i : Item). i.size) sorted))
place_by_sum start items sorted k d same ordered l =
    let x = get_or sorted k d in
    let term : Item → ℕ = λ i. cond (comes_before i x) i.size 0 in
    let a = sum-map (λ (i : Item). i.size) (filter (λ i. comes_before i x) items) in
    let b = sum_filter (λ (i : Item). i.size) (λ i. comes_before i x) items in
    let e : sum_by term sorted ≡ sum_by term items = sum_by-IsPermutation term items sorted same in
    let front : sum_by term sorted ≡ sum_by (λ (i : Item). i.size) (take k sorted) =
    sum_front term (λ (i : Item). i.size) sorted k
    (λ j e below in_j. ap (λ t. cond t (get_or sorted j e).size 0) (earlier_one sorted ordered k d l j e below))
    (λ j e above in_j. ap (λ t. cond t (get_or sorted j e).size 0) (later_one sorted ordered k d l j e above in_j)) in
    let m : sum (take k (map (λ (i : Item). i.size) sorted)) ≡ sum_by (λ (i : Item). i.size) (take k sorted) =
    ap sum (take-map (λ (i : Item). i.size) k sorted) ∙ sum-map (λ (i : Item). i.size) (take k sorted) in
    omega (arith, a, b, e, front, m)

pub place_by_starts : (start : ℕ) (items sorted : List Item) (k : ℕ) (d : Item) → IsPermutation items sorted → AllPairs (λ i j. IsTrue (comes_before i j)) sorted → k < length sorted
    → place_from start items (get_or sorted k d) ≡ get_or (starts start (map (λ (i : Item). i.size) sorted)) k 0
place_by_starts start items sorted k d same ordered l =
    place_by_sum start items sorted k d same ordered l
    ∙ sym (starts_sum start (map (λ (i : Item). i.size) sorted) k (let e = length-map sorted (λ (i : Item). i.size) in omega (arith, e, l)))
