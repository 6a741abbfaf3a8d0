-- Where each item of all items in order stands: at the start of its bus, or behind the item before it.
use Rattle.std.proofs.Common.{◌≡◌, ℕ, zero, suc, ◌+◌, ◌<◌, ◌≤◌, ◌⊎◌, inl, inr, List, [], ◌∷◌, ◌++◌, refl, Bool, true, false, cond, ◌&&◌, ◌||◌, arith, sym, ◌∙◌, ap, subst, map, length, get_or, take}
use Rattle.std.specs.Bool.{◌==◌, if◌then◌else◌}
use Rattle.std.specs.List.{Contains, filter, flat_map, sum, sum_by}
use Rattle.std.specs.List.Sorted.{IsPermutation}
use Rattle.std.proofs.lemmas.Bool.{cases_Bool, cases_eq, cases_lt, both_ways, eqb-true, eq-eqb, ne_eqb, or_cases, and_parts}
use Rattle.std.proofs.lemmas.List.{get_or_default}
use Rattle.std.proofs.lemmas.List.Elements.{filter_agree, filter-append, Contains-get_or}
use Rattle.std.proofs.lemmas.List.Sums.{sum_by-cons, sum_by_more, sum-map}
use Rattle.std.proofs.lemmas.List.Sorted.{sum_by-IsPermutation, IsPermutation-sym, Contains-permutation}
use Rattle.pci_spec.specs.Window.{WindowKind}
use Rattle.pci_spec.specs.System.{System, Function}
use Rattle.pci_spec.specs.Bus.{is_root, are_siblings, IsNested}
use Rattle.plan_spec.specs.Plan.{Pools, pool_of, greatest, raised_to}
use Rattle.plan_spec.specs.Place.{Item, own_items, items_beside, comes_before, place_from, start_of, place_of}
use Rattle.plan_spec.specs.Planning.Sorted.{all_items, group_of, item_group, Precedes, IsInOrder, group_sum}
use Rattle.pci_spec.proofs.Members.{in_head, in_tail}
use Rattle.plan_spec.proofs.Planning.OwnItems.{own_function, item_function}
use Rattle.plan_spec.proofs.Planning.Safe.{order_of}
use Rattle.plan_spec.proofs.Planning.Starts.{start_of_root}
use Rattle.plan_spec.proofs.Planning.Order.{before_itself, before_once, sum_filter, sum_front}

-- ---- what is beside

filter_all : {X : Type 0} (p : X → Bool) (xs : List X) → ((x : X) → Contains xs x → p x ≡ true) → filter p xs ≡ xs
filter_all p [] all = refl
filter_all p (x ∷ xs) all =
    ap (λ b. cond b (x ∷ filter p xs) (filter p xs)) (all x (in_head x xs))
    ∙ ap (λ ys. x ∷ ys) (filter_all p xs (λ y listed. all y (in_tail x xs y listed)))

filter_none : {X : Type 0} (p : X → Bool) (xs : List X) → ((x : X) → Contains xs x → p x ≡ false) → filter p xs ≡ []
filter_none p [] none = refl
filter_none p (x ∷ xs) none =
    ap (λ b. cond b (x ∷ filter p xs) (filter p xs)) (none x (in_head x xs))
    ∙ filter_none p xs (λ y listed. none y (in_tail x xs y listed))

-- what passes a test of functions
filter_pieces : {X Y : Type 0} (test : X → Bool) (p : Y → Bool) (f : X → List Y) (xs : List X) → ((x : X) (y : Y) → Contains (f x) y → p y ≡ test x)
    → flat_map (λ x. if test x then f x else []) xs ≡ filter p (flat_map f xs)
filter_pieces test p f [] same = refl
filter_pieces test p f (x ∷ xs) same =
    let here : (if test x then f x else []) ≡ filter p (f x) = elim (cases_Bool (test x)) [
      | inl yes_so ↦ ap (λ b. cond b (f x) []) yes_so ∙ sym (filter_all p (f x) (λ y listed. same x y listed ∙ yes_so))
      | inr not_so ↦ ap (λ b. cond b (f x) []) not_so ∙ sym (filter_none p (f x) (λ y listed. same x y listed ∙ not_so))
    ] in
    ap (λ ys. ys ++ flat_map (λ z. if test z then f z else []) xs) here
    ∙ ap (λ ys. filter p (f x) ++ ys) (filter_pieces test p f xs same)
    ∙ sym (filter-append p (f x) (flat_map f xs))

pub beside_filter : (roots : List ℕ) (s : System) (pools : Pools) (c : WindowKind) (bus : ℕ)
    → items_beside roots s pools c bus ≡ filter (λ i. are_siblings roots bus i.function.slot.bus) (all_items s pools c)
beside_filter roots s pools c bus =
    filter_pieces (λ f. are_siblings roots bus f.slot.bus) (λ i. are_siblings roots bus i.function.slot.bus) (own_items s pools c) s
    (λ f i listed. ap (λ (g : Function). are_siblings roots bus g.slot.bus) (own_function s pools c f i listed))

-- ---- groups

or_true : (x : Bool) → (x || true) ≡ true
or_true true = refl
or_true false = refl

or_false : (x : Bool) → (x || false) ≡ x
or_false true = refl
or_false false = refl

beside_test : (a b : ℕ) (root_a root_b : Bool) → (a ≡ b → root_a ≡ root_b) → (root_a ≡ false → 0 < a) → (root_b ≡ false → 0 < b)
    → (a == b || (root_a && root_b)) ≡ (cond root_a 0 a == cond root_b 0 b)
beside_test a b true true same up_a up_b = or_true (a == b)
beside_test a b true false same up_a up_b =
    let up = up_b refl in
    or_false (a == b) ∙ ne_eqb a b (λ e. both_ways true (same e) refl) ∙ sym (ne_eqb 0 b (λ e. let impossible : ⊥ = omega (arith, e, up) in impossible))
beside_test a b false true same up_a up_b =
    let up = up_a refl in
    or_false (a == b) ∙ ne_eqb a b (λ e. both_ways true (sym (same e)) refl) ∙ sym (ne_eqb a 0 (λ e. let impossible : ⊥ = omega (arith, e, up) in impossible))
beside_test a b false false same up_a up_b = or_false (a == b)

root_test : (a b : ℕ) (root_a root_b : Bool) → (a ≡ b → root_a ≡ root_b) → root_a ≡ true → (a == b || (root_a && root_b)) ≡ root_b
root_test a b true true same root = or_true (a == b)
root_test a b true false same root = or_false (a == b) ∙ ne_eqb a b (λ e. both_ways true (same e) refl)
root_test a b false root_b same root = absurd (both_ways false refl root)

-- what is beside a root is what is on one
pub beside_root : (roots : List ℕ) (bus other : ℕ) → is_root roots bus ≡ true → are_siblings roots bus other ≡ is_root roots other
beside_root roots bus other root = root_test bus other (is_root roots bus) (is_root roots other) (λ e. ap (is_root roots) e) root

pub items_on_roots : (roots : List ℕ) (s : System) (pools : Pools) (c : WindowKind) (bus : ℕ) → is_root roots bus ≡ true
    → items_beside roots s pools c bus ≡ filter (λ i. is_root roots i.function.slot.bus) (all_items s pools c)
items_on_roots roots s pools c bus root =
    beside_filter roots s pools c bus
    ∙ filter_agree (λ i. are_siblings roots bus i.function.slot.bus) (λ i. is_root roots i.function.slot.bus) (λ i. beside_root roots bus i.function.slot.bus root) (all_items s pools c)

-- all roots start at one place, and have the same items
pub same_on_roots : (roots : List ℕ) (s : System) (pools : Pools) (c : WindowKind) (a b : ℕ) → is_root roots a ≡ true → is_root roots b ≡ true
    → items_beside roots s pools c a ≡ items_beside roots s pools c b
same_on_roots roots s pools c a b root_a root_b = items_on_roots roots s pools c a root_a ∙ sym (items_on_roots roots s pools c b root_b)

pub same_start : (roots : List ℕ) (s : System) (pools : Pools) (c : WindowKind) (a b : ℕ) → is_root roots a ≡ true → is_root roots b ≡ true
    → start_of roots s pools c a ≡ start_of roots s pools c b
same_start roots s pools c a b root_a root_b =
    start_of_root roots s pools c a root_a
    ∙ ap (λ items. raised_to (greatest (map (λ (i : Item). i.size) items)) (pool_of pools c).first) (same_on_roots roots s pools c a b root_a root_b)
    ∙ sym (start_of_root roots s pools c b root_b)

front_zero : {X : Type 0} (f : X → ℕ) (xs : List X) (k : ℕ) → ((j : ℕ) (d : X) → j < k → j < length xs → f (get_or xs j d) ≡ 0) → sum_by f (take k xs) ≡ 0
front_zero f xs zero none = refl
front_zero f [] (suc k) none = refl
front_zero f (x ∷ xs) (suc k) none =
    let a = sum_by-cons f x (take k xs) in
    let here = none 0 x (omega arith) (omega arith) in
    let rest = front_zero f xs k (λ j d below l. none (suc j) d (omega (arith, below)) (omega (arith, l))) in
    omega (arith, a, here, rest)

cond_zero : (b : Bool) → ◌≡◌ {A = ℕ} (cond b 0 0) 0
cond_zero true = refl
cond_zero false = refl

module _ (roots : List ℕ) (s : System) (nested : IsNested roots s) where
  -- only a root has number 0
  pub above_zero : (f : Function) → Contains s f → is_root roots f.slot.bus ≡ false → 0 < f.slot.bus
  above_zero f listed off =
      let one = nested.one f listed off in
      let leads = one.1 in
      let up = order_of roots s nested one.0 leads.0 leads.1 in
      let to = leads.2 in
      omega (arith, up, to)

  -- two functions are side by side where their buses are of one group
  pub group_test : (f g : Function) → Contains s f → Contains s g → are_siblings roots f.slot.bus g.slot.bus ≡ (group_of roots f.slot.bus == group_of roots g.slot.bus)
  group_test f g in_f in_g =
      beside_test f.slot.bus g.slot.bus (is_root roots f.slot.bus) (is_root roots g.slot.bus) (λ e. ap (is_root roots) e) (above_zero f in_f) (above_zero g in_g)

  -- of one group: on one bus, or both on roots
  pub group_cases : (f g : Function) → Contains s f → Contains s g → group_of roots f.slot.bus ≡ group_of roots g.slot.bus
      → (f.slot.bus ≡ g.slot.bus) ⊎ ((is_root roots f.slot.bus ≡ true) × (is_root roots g.slot.bus ≡ true))
  group_cases f g in_f in_g same =
      elim (or_cases (f.slot.bus == g.slot.bus) (is_root roots f.slot.bus && is_root roots g.slot.bus) (group_test f g in_f in_g ∙ eq-eqb (group_of roots f.slot.bus) (group_of roots g.slot.bus) same)) [
        | inl bus ↦ inl (eqb-true f.slot.bus g.slot.bus bus)
        | inr both ↦ inr (and_parts (is_root roots f.slot.bus) (is_root roots g.slot.bus) both)
      ]

  -- ---- places by all items in order

  module _ (pools : Pools) (c : WindowKind) (sorted : List Item) (same : IsPermutation (all_items s pools c) sorted) (ordered : IsInOrder roots sorted) where
    pub sorted_function : (k : ℕ) (d : Item) → k < length sorted → Contains s (get_or sorted k d).function
    sorted_function k d l =
        item_function s pools c (get_or sorted k d)
        (Contains-permutation sorted (all_items s pools c) (get_or sorted k d) (IsPermutation-sym (all_items s pools c) sorted same) (Contains-get_or sorted k d l))

    -- what an item has before it: nothing but items of its group that come before it
    abbrev term : Item → Item → ℕ
    term x i = cond (are_siblings roots x.function.slot.bus i.function.slot.bus) (cond (comes_before i x) i.size 0) 0

    abbrev group_term : Item → Item → ℕ
    group_term x i = if item_group roots i == item_group roots x then i.size else 0

    place_terms : (start : ℕ) (x : Item) → place_from start (items_beside roots s pools c x.function.slot.bus) x ≡ start + sum_by (term x) sorted
    place_terms start x =
        let beside : Item → Bool = λ i. are_siblings roots x.function.slot.bus i.function.slot.bus in
        let before : Item → ℕ = λ i. cond (comes_before i x) i.size 0 in
        let e = ap (λ items. sum (map (λ (i : Item). i.size) (filter (λ i. comes_before i x) items))) (beside_filter roots s pools c x.function.slot.bus) in
        let a = sum-map (λ (i : Item). i.size) (filter (λ i. comes_before i x) (filter beside (all_items s pools c))) in
        let b = sum_filter (λ (i : Item). i.size) (λ i. comes_before i x) (filter beside (all_items s pools c)) in
        let f = sum_filter before beside (all_items s pools c) in
        let g : sum_by (term x) sorted ≡ sum_by (term x) (all_items s pools c) = sum_by-IsPermutation (term x) (all_items s pools c) sorted same in
        omega (arith, e, a, b, f, g)

    not_beside : (x i : Item) → are_siblings roots x.function.slot.bus i.function.slot.bus ≡ false → term x i ≡ 0
    not_beside x i other = ap (λ b. cond b (cond (comes_before i x) i.size 0) 0) other

    not_before : (x i : Item) → comes_before i x ≡ false → term x i ≡ 0
    not_before x i other =
        ap (λ b. cond (are_siblings roots x.function.slot.bus i.function.slot.bus) (cond b i.size 0) 0) other
        ∙ cond_zero (are_siblings roots x.function.slot.bus i.function.slot.bus)

    other_group : (x i : Item) → Contains s x.function → Contains s i.function → (item_group roots x ≡ item_group roots i → ⊥) → are_siblings roots x.function.slot.bus i.function.slot.bus ≡ false
    other_group x i in_x in_i other = group_test x.function i.function in_x in_i ∙ ne_eqb (item_group roots x) (item_group roots i) other

    preceding_term : (x i : Item) → Contains s x.function → Contains s i.function → Precedes roots i x → term x i ≡ group_term x i
    preceding_term x i in_x in_i first = elim first [
      | inl lower ↦
          not_beside x i (other_group x i in_x in_i (λ e. let impossible : ⊥ = omega (arith, e, lower) in impossible))
          ∙ sym (ap (λ b. cond b i.size 0) (ne_eqb (item_group roots i) (item_group roots x) (λ e. let impossible : ⊥ = omega (arith, e, lower) in impossible)))
      | inr here ↦
          ap (λ b. cond b (cond (comes_before i x) i.size 0) 0) (group_test x.function i.function in_x in_i ∙ eq-eqb (item_group roots x) (item_group roots i) (sym here.0))
          ∙ ap (λ b. cond b i.size 0) here.1
          ∙ sym (ap (λ b. cond b i.size 0) (eq-eqb (item_group roots i) (item_group roots x) here.0))
    ]

    following_term : (x i : Item) → Contains s x.function → Contains s i.function → Precedes roots x i → term x i ≡ 0
    following_term x i in_x in_i first = elim first [
      | inl lower ↦ not_beside x i (other_group x i in_x in_i (λ e. let impossible : ⊥ = omega (arith, e, lower) in impossible))
      | inr here ↦ not_before x i (before_once x i here.1)
    ]

    front_term : (k j : ℕ) (d e : Item) → k < length sorted → j < k → term (get_or sorted k d) (get_or sorted j e) ≡ group_term (get_or sorted k d) (get_or sorted j e)
    front_term k j d e l below =
        preceding_term (get_or sorted k d) (get_or sorted j e) (sorted_function k d l) (sorted_function j e (omega (arith, l, below)))
        (subst (λ x. Precedes roots (get_or sorted j e) x) (get_or_default sorted k e d l) (ordered j k e below l))

    rest_term : (k j : ℕ) (d e : Item) → k < length sorted → k ≤ j → j < length sorted → term (get_or sorted k d) (get_or sorted j e) ≡ 0
    rest_term k j d e l above in_j = elim (cases_eq k j) [
      | inl here ↦
          let is : get_or sorted k d ≡ get_or sorted j e = get_or_default sorted k d e l ∙ ap (λ n. get_or sorted n e) here in
          subst (λ x. term (get_or sorted k d) x ≡ 0) is (not_before (get_or sorted k d) (get_or sorted k d) (before_itself (get_or sorted k d)))
      | inr other ↦
          following_term (get_or sorted k d) (get_or sorted j e) (sorted_function k d l) (sorted_function j e in_j)
          (subst (λ x. Precedes roots x (get_or sorted j e)) (get_or_default sorted k e d l) (ordered k j e (omega (arith, above, other)) in_j))
    ]

    -- the item at k stands behind those of its group that are before it
    pub place_in_group : (k : ℕ) (d : Item) → k < length sorted
        → place_of roots s pools c (get_or sorted k d) ≡ start_of roots s pools c (get_or sorted k d).function.slot.bus + group_sum roots (item_group roots (get_or sorted k d)) (take k sorted)
    place_in_group k d l =
        let x = get_or sorted k d in
        let e = place_terms (start_of roots s pools c x.function.slot.bus) x in
        let f : sum_by (term x) sorted ≡ sum_by (group_term x) (take k sorted) =
        sum_front (term x) (group_term x) sorted k (λ j e below in_j. front_term k j d e l below) (λ j e above in_j. rest_term k j d e l above in_j) in
        omega (arith, e, f)

    -- ---- the two laws of a walk along the list

    pub groups_rise : (j k : ℕ) (d e : Item) → j ≤ k → k < length sorted → item_group roots (get_or sorted j e) ≤ item_group roots (get_or sorted k d)
    groups_rise j k d e before l = elim (cases_eq j k) [
      | inl here ↦ let is = ap (item_group roots) (get_or_default sorted k d e l ∙ ap (λ n. get_or sorted n e) (sym here)) in omega (arith, is)
      | inr other ↦
          let is = ap (item_group roots) (get_or_default sorted k d e l) in
          elim (ordered j k e (omega (arith, before, other)) l) [
            | inl lower ↦ omega (arith, lower, is)
            | inr same_group ↦ (let g = same_group.0 in omega (arith, g, is))
          ]
    ]

    -- what is of a lower group is before it
    pub earlier_by_group : (j k : ℕ) (d e : Item) → j < length sorted → item_group roots (get_or sorted j d) < item_group roots (get_or sorted k e) → j < k
    earlier_by_group j k d e l lower = elim (cases_lt j k) [
      | inl before ↦ before
      | inr after ↦ (let rise = groups_rise k j d e after l in absurd {A = j < k} (let impossible : ⊥ = omega (arith, rise, lower) in impossible))
    ]

    new_group : (k : ℕ) (d : Item) → k < length sorted → ((j : ℕ) (e : Item) → j < k → (item_group roots (get_or sorted j e) ≡ item_group roots (get_or sorted k d) → ⊥))
        → place_of roots s pools c (get_or sorted k d) ≡ start_of roots s pools c (get_or sorted k d).function.slot.bus
    new_group k d l other =
        let x = get_or sorted k d in
        let e = place_in_group k d l in
        let z = front_zero (group_term x) sorted k (λ j e below in_j. ap (λ b. cond b (get_or sorted j e).size 0) (ne_eqb (item_group roots (get_or sorted j e)) (item_group roots x) (other j e below))) in
        omega (arith, e, z)

    -- the first item of all stands at the start of its bus
    pub place_of_first : (d : Item) → 0 < length sorted → place_of roots s pools c (get_or sorted 0 d) ≡ start_of roots s pools c (get_or sorted 0 d).function.slot.bus
    place_of_first d l = new_group 0 d l (λ j e below. absurd (let impossible : ⊥ = omega (arith, below) in impossible))

    -- and so does an item of another group than the one before it
    pub place_of_new_group : (k : ℕ) (d : Item) → k + 1 < length sorted → (item_group roots (get_or sorted k d) ≡ item_group roots (get_or sorted (k + 1) d) → ⊥)
        → place_of roots s pools c (get_or sorted (k + 1) d) ≡ start_of roots s pools c (get_or sorted (k + 1) d).function.slot.bus
    place_of_new_group k d l other = new_group (k + 1) d l
        (λ j e below same_group.
        let low = groups_rise j k d e (omega (arith, below)) (omega (arith, l)) in
        let high = groups_rise k (k + 1) d d (omega arith) l in
        other (omega (arith, low, high, same_group)))

    -- one of the same group stands right behind it
    pub place_of_next : (k : ℕ) (d : Item) → k + 1 < length sorted → item_group roots (get_or sorted k d) ≡ item_group roots (get_or sorted (k + 1) d)
        → place_of roots s pools c (get_or sorted (k + 1) d) ≡ place_of roots s pools c (get_or sorted k d) + (get_or sorted k d).size
    place_of_next k d l same_group =
        let x = get_or sorted k d in
        let y = get_or sorted (k + 1) d in
        let at_x = place_in_group k d (omega (arith, l)) in
        let at_y = place_in_group (k + 1) d l in
        let more = sum_by_more (group_term y) sorted k d (omega (arith, l)) in
        let own = ap (λ b. cond b x.size 0) (eq-eqb (item_group roots x) (item_group roots y) same_group) in
        let front = ap (λ g. group_sum roots g (take k sorted)) same_group in
        let start : start_of roots s pools c x.function.slot.bus ≡ start_of roots s pools c y.function.slot.bus =
        elim (group_cases x.function y.function (sorted_function k d (omega (arith, l))) (sorted_function (k + 1) d l) same_group) [
          | inl bus ↦ ap (start_of roots s pools c) bus
          | inr both ↦ same_start roots s pools c x.function.slot.bus y.function.slot.bus both.0 both.1
        ] in
        omega (arith, at_x, at_y, more, own, front, start)
