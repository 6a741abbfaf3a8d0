-- The faults of a text, and what they name.
use Rattle.std.proofs.Common.{◌≡◌, ◌≤◌, ◌<◌, ◌+◌, ◌-◌, ◌==◌, ◌&&◌, ◌||◌, ◌⊎◌, ℕ, zero, suc, Bool, true, false, ltb, leb, cond, List, [], ◌∷◌, ◌++◌, map, length, take, drop, get_or, Option, Some, None, Bor, refl, sym, ap, subst, ◌∙◌, inl, inr, arith}
use Rattle.std.specs.List.{All, filter, list_any, slice_get, slice_range, slice_split}
use Rattle.std.specs.List.Sorted.{IsPartitionPoint, IsPermutation}
use Rattle.std.specs.Option.{MatchOption, unwrap_or}
use Rattle.std.proofs.lemmas.Bool.{eq-eqb, leb-false, leb-true, ltb-false, ltb-true, ne_eqb}
use Rattle.std.proofs.lemmas.List.{length-append, map-append}
use Rattle.std.proofs.lemmas.List.Elements.{All-append, All-head, All-map, All-nil, All-tail, All-weaker}
use Rattle.std.proofs.lemmas.List.Folds.{list_any-append}
use Rattle.std.proofs.lemmas.List.Sorted.{list_any-IsPermutation}
use Rattle.pci_picture.specs.Lines.{is_feed}
use Rattle.pci_picture.specs.Marks.{AddsFault, fault_numbers, has_naming, has_one_of, is_named, is_naming, keys_begun, names_region, namings_of, number_before_blank, numbered_names, numbers_begun}
use Rattle.pci_picture.specs.declared.faults.Fault.{Fault}
use Rattle.pci_picture.specs.declared.faults.Naming.{Naming}
use Rattle.pci_picture.specs.declared.faults.Reader.{Reader}

-- ---- what is sorted by a number is found between two points

module _ {X : Type 0} (number : X → ℕ) (key : ℕ) where
  abbrev Within : List X → ℕ → ℕ → Type 0
  Within xs begin end = (m : ℕ) × (begin + m ≡ end) × (take m (drop begin xs) ≡ filter (λ x. number x == key) xs)

  within : (xs : List X) (begin end : ℕ) → begin ≤ length xs → end ≤ length xs
      → ((k : ℕ) (d : X) → k < begin → number (get_or xs k d) < key) → ((k : ℕ) (d : X) → begin ≤ k → k < length xs → key ≤ number (get_or xs k d))
      → ((k : ℕ) (d : X) → k < end → number (get_or xs k d) ≤ key) → ((k : ℕ) (d : X) → end ≤ k → k < length xs → key < number (get_or xs k d))
      → Within xs begin end
  within [] zero zero p q low from most past = (0, refl, refl)
  within [] zero (suc end) p q low from most past = absurd (omega (arith, q))
  within [] (suc begin) end p q low from most past = absurd (omega (arith, p))
  within (x ∷ xs) zero zero p q low from most past =
      let more : key < number x = past 0 x (omega arith) (omega arith) in
      let rest = within xs 0 0 (omega arith) (omega arith) (λ k d lt. absurd (omega (arith, lt))) (λ k d ge lt. from (suc k) d (omega arith) (omega (arith, lt)))
      (λ k d lt. absurd (omega (arith, lt))) (λ k d ge lt. past (suc k) d (omega arith) (omega (arith, lt))) in
      let none : rest.0 ≡ 0 = omega (arith, rest.1) in
      (0, refl, sym (rw (ne_eqb (number x) key (λ same. omega (arith, same, more))) (sym rest.2 ∙ ap (λ m. take m xs) none)))
  within (x ∷ xs) zero (suc end) p q low from most past =
      let same : number x ≡ key = (let a = from 0 x (omega arith) (omega arith) in let b = most 0 x (omega arith) in omega (arith, a, b)) in
      let rest = within xs 0 end (omega arith) (omega (arith, q)) (λ k d lt. absurd (omega (arith, lt))) (λ k d ge lt. from (suc k) d (omega arith) (omega (arith, lt)))
      (λ k d lt. most (suc k) d (omega (arith, lt))) (λ k d ge lt. past (suc k) d (omega (arith, ge)) (omega (arith, lt))) in
      (suc rest.0, omega (arith, rest.1), sym (rw (eq-eqb (number x) key same) (ap (λ l. x ∷ l) (sym rest.2))))
  within (x ∷ xs) (suc begin) zero p q low from most past =
      absurd (let a = low 0 x (omega arith) in let b = past 0 x (omega arith) (omega arith) in omega (arith, a, b))
  within (x ∷ xs) (suc begin) (suc end) p q low from most past =
      let less : number x < key = low 0 x (omega arith) in
      let rest = within xs begin end (omega (arith, p)) (omega (arith, q)) (λ k d lt. low (suc k) d (omega (arith, lt))) (λ k d ge lt. from (suc k) d (omega (arith, ge)) (omega (arith, lt)))
      (λ k d lt. most (suc k) d (omega (arith, lt))) (λ k d ge lt. past (suc k) d (omega (arith, ge)) (omega (arith, lt))) in
      (rest.0, omega (arith, rest.1), sym (rw (ne_eqb (number x) key (λ same. omega (arith, same, less))) (sym rest.2)))

  pub within_points : (xs : List X) (begin end : ℕ) → begin ≤ length xs → end ≤ length xs
      → IsPartitionPoint (λ x. ltb (number x) key ≡ true) (λ x. ltb (number x) key ≡ false) xs begin
      → IsPartitionPoint (λ x. leb (number x) key ≡ true) (λ x. leb (number x) key ≡ false) xs end
      → (begin ≤ end) × (slice_range xs begin end ≡ filter (λ x. number x == key) xs)
  within_points xs begin end p q at to =
      let found =
      within xs begin end p q (λ k d lt. ltb-true _ _ (at.0 k d (omega arith) lt)) (λ k d ge lt. ltb-false _ _ (at.1 k d ge lt))
      (λ k d lt. leb-true _ _ (to.0 k d (omega arith) lt)) (λ k d ge lt. leb-false _ _ (to.1 k d ge lt)) in
      let long : end - begin ≡ found.0 = omega (arith, found.1) in
      (omega (arith, found.1), ap (λ m. take m (drop begin xs)) long ∙ found.2)

-- the part of a list that `get` gives, where it is inside
pub part_found : {X : Type 0} (part : Option (Bor (List X))) (all items filtered : List X) (result default : Bor (List X)) (begin end : ℕ)
    → result ≡ unwrap_or part default
    → MatchOption part ((end < begin) ⊎ (length all < end)) (λ x. (begin ≤ end) × (end ≤ length all) × (x.now ≡ slice_range all begin end) × (length x.now + begin ≡ end))
    → all ≡ items → begin ≤ end → end ≤ length items → slice_range items begin end ≡ filtered → result.now ≡ filtered
part_found None all items filtered result default begin end is found whole le inside same =
    absurd (let long : length all ≡ length items = ap length whole in let no : ⊥ = elim found [ inl a ↦ omega (arith, a, le) | inr b ↦ omega (arith, b, long, inside) ] in no)
part_found (Some x) all items filtered result default begin end is found whole le inside same =
    ap (λ r. r.now) is ∙ found.2 ∙ ap (λ l. slice_range l begin end) whole ∙ same

-- ---- tests of lists

pub any_filtered : {X : Type 0} (p q : X → Bool) (xs : List X) → list_any p (filter q xs) ≡ list_any (λ x. q x && p x) xs
any_filtered p q [] = refl
any_filtered p q (x ∷ xs) = elim (q x) as (λ b. list_any p (cond b (x ∷ filter q xs) (filter q xs)) ≡ ((b && p x) || list_any (λ y. q y && p y) xs)) [
  | true ↦ ap (λ b. p x || b) (any_filtered p q xs)
  | false ↦ any_filtered p q xs
]

pub any_alike : {X : Type 0} (p q : X → Bool) (xs : List X) → All (λ x. p x ≡ q x) xs → list_any p xs ≡ list_any q xs
any_alike p q [] all = refl
any_alike p q (x ∷ xs) all =
    ap (λ b. b || list_any p xs) (All-head (λ y. p y ≡ q y) x xs all) ∙ ap (λ b. q x || b) (any_alike p q xs (All-tail (λ y. p y ≡ q y) x xs all))

pub any_of_map : {X Y : Type 0} (p : Y → Bool) (f : X → Y) (xs : List X) → list_any p (map f xs) ≡ list_any (λ x. p (f x)) xs
any_of_map p f [] = refl
any_of_map p f (x ∷ xs) = ap (λ b. p (f x) || b) (any_of_map p f xs)

pub any_and : {X : Type 0} (p : X → Bool) (b : Bool) (xs : List X) → list_any (λ x. p x && b) xs ≡ (b && list_any p xs)
any_and p b [] = elim b as (λ c. false ≡ (c && false)) [ true ↦ refl | false ↦ refl ]
any_and p b (x ∷ xs) = ap (λ c. (p x && b) || c) (any_and p b xs) ∙ both (p x) b (list_any p xs)
  where
    both : (a b c : Bool) → ((a && b) || (b && c)) ≡ (b && (a || c))
    both true true c = refl
    both true false c = refl
    both false true c = refl
    both false false c = refl

or_false : (b : Bool) → (b || false) ≡ b
or_false true = refl
or_false false = refl

-- ---- the numbers of faults

abbrev at_number : ℕ → ℕ → Option ℕ → Bool
at_number one other None = false
at_number one other (Some number) = number == one || number == other

by_number : (one other : ℕ) (faults : List Fault) (i : ℕ) → has_one_of one other (slice_get faults i) ≡ at_number one other (slice_get (fault_numbers faults) i)
by_number one other [] i = refl
by_number one other (fault ∷ faults) zero = refl
by_number one other (fault ∷ faults) (suc i) = by_number one other faults i

get_before : {X : Type 0} (xs ys : List X) (i : ℕ) → i < length xs → slice_get (xs ++ ys) i ≡ slice_get xs i
get_before [] ys i lt = absurd (omega (arith, lt))
get_before (x ∷ xs) ys zero lt = refl
get_before (x ∷ xs) ys (suc i) lt = get_before xs ys i (omega (arith, lt))

get_next : {X : Type 0} (xs : List X) (y : X) → slice_get (xs ++ y ∷ []) (length xs) ≡ Some y
get_next [] y = refl
get_next (x ∷ xs) y = get_next xs y

numbers_long : (faults : List Fault) → length (fault_numbers faults) ≡ length faults
numbers_long [] = refl
numbers_long (fault ∷ faults) = ap suc (numbers_long faults)

-- ---- the faults of lines that were read

abbrev IsOfFault : List Fault → Naming → Type 0
IsOfFault faults naming = naming.fault < length faults

pub record AreReadFaults (lines : List (List ℕ)) (faults : List Fault) (namings : List Naming) : Type 0 where
  pub known : All (IsOfFault faults) namings
  pub named : (one other key : ℕ) → has_naming faults namings one other key ≡ list_any (names_region one other key) lines

pub none_read : (faults : List Fault) (namings : List Naming) → namings ≡ [] → AreReadFaults [] faults namings
none_read faults namings none = record {
  known = subst (All (IsOfFault faults)) (sym none) (All-nil (IsOfFault faults));
  named = λ one other key. ap (list_any (is_naming faults one other key)) none;
}

-- ---- one more line

-- the namings before it stay those of the same faults
same_number : (one other i : ℕ) (old new : List Fault) (more : List ℕ) → fault_numbers new ≡ fault_numbers old ++ more → i < length old
    → has_one_of one other (slice_get new i) ≡ has_one_of one other (slice_get old i)
same_number one other i old new more is lt =
    by_number one other new i ∙ ap (λ ns. at_number one other (slice_get ns i)) is
    ∙ ap (at_number one other) (get_before (fault_numbers old) more i (omega (arith, lt, numbers_long old)))
    ∙ sym (by_number one other old i)

namings_before : (one other key : ℕ) (old new : List Fault) (more : List ℕ) (namings : List Naming) → fault_numbers new ≡ fault_numbers old ++ more
    → All (IsOfFault old) namings → has_naming new namings one other key ≡ has_naming old namings one other key
namings_before one other key old new more namings is known =
    any_alike (is_naming new one other key) (is_naming old one other key) namings
    (All-weaker (IsOfFault old) (λ naming. is_naming new one other key naming ≡ is_naming old one other key naming)
    (λ naming lt. ap (λ b. (naming.key == key) && b) (same_number one other naming.fault old new more is lt)) namings known)

-- those of a fault that is added
namings_added : (one other key number : ℕ) (keys : List ℕ) (old new : List Fault) → fault_numbers new ≡ fault_numbers old ++ number ∷ []
    → has_naming new (namings_of (length old) keys) one other key ≡ ((number == one || number == other) && list_any (λ k. k == key) keys)
namings_added one other key number keys old new is =
    let found : has_one_of one other (slice_get new (length old)) ≡ (number == one || number == other) =
    by_number one other new (length old) ∙ ap (λ ns. at_number one other (slice_get ns (length old))) is
    ∙ ap (λ i. at_number one other (slice_get (fault_numbers old ++ number ∷ []) i)) (sym (numbers_long old))
    ∙ ap (at_number one other) (get_next (fault_numbers old) number) in
    any_of_map (is_naming new one other key) (λ k. record { key = k; fault = length old }) keys
    ∙ any_and (λ k. k == key) (has_one_of one other (slice_get new (length old))) keys
    ∙ ap (λ b. b && list_any (λ k. k == key) keys) found

line_added : (one other key : ℕ) (begun : Option ℕ) (line : List ℕ) (old new : List Fault) → fault_numbers new ≡ fault_numbers old ++ numbers_begun begun
    → has_naming new (namings_of (length old) (keys_begun begun line)) one other key ≡ numbered_names one other key line begun
line_added one other key None line old new is = refl
line_added one other key (Some number) line old new is = namings_added one other key number (keys_begun (Some number) line) old new is

-- the new namings are of faults that are there
more_faults : (old new : List Fault) (more : List ℕ) → fault_numbers new ≡ fault_numbers old ++ more → length new ≡ length old + length more
more_faults old new more is =
    omega (arith, sym (numbers_long new) ∙ ap length is ∙ length-append (fault_numbers old) more, numbers_long old)

added_known : (begun : Option ℕ) (line : List ℕ) (old new : List Fault) → fault_numbers new ≡ fault_numbers old ++ numbers_begun begun
    → All (IsOfFault new) (namings_of (length old) (keys_begun begun line))
added_known None line old new is = All-nil (IsOfFault new)
added_known (Some number) line old new is =
    let more = more_faults old new (number ∷ []) is in
    All-map (IsOfFault new) (λ k. record { key = k; fault = length old }) (keys_begun (Some number) line) (λ k x lt. omega (arith, more))

pub one_more : {A X : Type 0} (now : X → List ℕ) (lines : List X) (line : X) (bytes : List ℕ) (old new : Reader A) → bytes ≡ now line
    → AreReadFaults (map now lines) old.faults.items old.namings.items → AddsFault (number_before_blank bytes) bytes old new
    → AreReadFaults (map now (lines ++ line ∷ [])) new.faults.items new.namings.items
one_more now lines line bytes old new same before step =
    let begun = number_before_blank bytes in
    let more = namings_of (length old.faults.items) (keys_begun begun bytes) in
    record {
      known =
          subst (All (IsOfFault new.faults.items)) (sym step.namings)
          (All-append (IsOfFault new.faults.items) old.namings.items more
          (All-weaker (IsOfFault old.faults.items) (IsOfFault new.faults.items)
          (λ naming lt. let long = more_faults old.faults.items new.faults.items (numbers_begun begun) step.numbers in omega (arith, long, lt)) old.namings.items before.known)
          (added_known begun bytes old.faults.items new.faults.items step.numbers));
      named = λ one other key.
          let test = is_naming new.faults.items one other key in
          ap (list_any test) step.namings ∙ list_any-append test old.namings.items more
          ∙ ap (λ b. b || list_any test more)
          (namings_before one other key old.faults.items new.faults.items (numbers_begun begun) old.namings.items step.numbers before.known ∙ before.named one other key)
          ∙ ap (λ b. list_any (names_region one other key) (map now lines) || b)
          (line_added one other key begun bytes old.faults.items new.faults.items step.numbers ∙ ap (names_region one other key) same ∙ sym (or_false _))
          ∙ sym (list_any-append (names_region one other key) (map now lines) (now line ∷ []))
          ∙ ap (list_any (names_region one other key)) (sym (map-append now lines (line ∷ [])));
    }

pub whole_text : {X : Type 0} (now : X → List ℕ) (lines : List X) (text : List ℕ) (faults : List Fault) (namings sorted : List Naming)
    → map now lines ≡ slice_split is_feed text → AreReadFaults (map now lines) faults namings → IsPermutation namings sorted
    → (one other key : ℕ) → has_naming faults sorted one other key ≡ is_named text one other key
whole_text now lines text faults namings sorted whole read moved one other key =
    sym (list_any-IsPermutation (is_naming faults one other key) namings sorted moved) ∙ read.named one other key
    ∙ ap (list_any (names_region one other key)) whole
