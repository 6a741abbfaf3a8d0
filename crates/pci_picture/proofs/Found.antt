-- Which function is found by the number of its slot.
use Rattle.std.proofs.Common.{◌≡◌, ◌≤◌, ◌<◌, ◌+◌, ◌-◌, ◌==◌, ℕ, zero, suc, true, false, ltb, cond, Option, Some, None, IfSome, List, [], ◌∷◌, Bor, map, length, min, take, drop, get_or, refl, sym, ap, subst, ◌∙◌, inl, inr, arith}
use Rattle.std.specs.List.{Contains, filter, find, slice_get}
use Rattle.std.specs.List.Sorted.{IsNonDecreasingBy, IsPartitionPoint}
use Rattle.std.specs.Option.{option_map}
use Rattle.std.proofs.lemmas.Bool.{cases_eq, eq-eqb, ltb-false, ltb-true, ne_eqb}
use Rattle.std.proofs.lemmas.List.{get_or-drop, get_or-take, length-drop, length-take}
use Rattle.std.proofs.lemmas.List.Kept.{IsNonDecreasingBy-filter}
use Rattle.std.proofs.lemmas.Option.{slice_get_past, slice_get_read}
use Rattle.pci_picture.specs.Named.{function_listed}
use Rattle.pci_picture.specs.Roots.{listed_function, listed_functions}
use Rattle.pci_picture.specs.Slots.{bus_of_slot}
use Rattle.pci_picture.specs.Starts.{FunctionsRise, functions_on}
use Rattle.pci_picture.specs.declared.function.Function.{Function}

-- ---- the first of those that rise by a number

module _ {X : Type 0} (number : X → ℕ) (n : ℕ) where
  -- what stands at an index, where it has the number
  abbrev pub if_numbered : Option X → Option X
  if_numbered None = None
  if_numbered (Some x) = cond (number x == n) (Some x) None

  none_numbered : (xs : List X) → ((k : ℕ) (d : X) → k < length xs → n < number (get_or xs k d)) → find (λ x. number x == n) xs ≡ None
  none_numbered [] high = refl
  none_numbered (x ∷ xs) high =
      rw (ne_eqb (number x) n (λ same. let up = high 0 x (omega arith) in omega (arith, same, up)))
      (none_numbered xs (λ k d inside. high (suc k) d (omega (arith, inside))))

  pub found_numbered : (xs : List X) (i : ℕ) → IsNonDecreasingBy number xs → ((k : ℕ) (d : X) → k < length xs → k < i → number (get_or xs k d) < n)
      → ((k : ℕ) (d : X) → i ≤ k → k < length xs → n ≤ number (get_or xs k d)) → find (λ x. number x == n) xs ≡ if_numbered (slice_get xs i)
  found_numbered [] i rises low high = refl
  found_numbered (x ∷ xs) zero rises low high =
      elim (cases_eq (number x) n) [
        | inl same ↦ rw (eq-eqb (number x) n same) refl
        | inr other ↦
            rw (ne_eqb (number x) n other)
            (none_numbered xs (λ k d inside.
            let up = rises 0 (suc k) d (omega arith) (omega (arith, inside)) in
            let first = high 0 d (omega arith) (omega arith) in
            omega (arith, up, first, other)))
      ]
  found_numbered (x ∷ xs) (suc i) rises low high =
      rw (ne_eqb (number x) n (λ same. let less = low 0 x (omega arith) (omega arith) in omega (arith, same, less)))
      (found_numbered xs i (λ i j d up inside. rises (suc i) (suc j) d (omega (arith, up)) (omega (arith, inside)))
      (λ k d inside below. low (suc k) d (omega (arith, inside)) (omega (arith, below))) (λ k d past inside. high (suc k) d (omega (arith, past)) (omega (arith, inside))))

-- ---- as functions are listed

pub listed_at : (functions : List Function) (slot : ℕ)
    → function_listed (listed_functions functions) slot ≡ option_map listed_function (find (λ (function : Function). function.number == slot) functions)
listed_at [] slot = refl
listed_at (function ∷ functions) slot =
    elim (function.number == slot) as (λ b. cond b (Some (listed_function function)) (function_listed (listed_functions functions) slot)
    ≡ option_map listed_function (cond b (Some function) (find (λ (f : Function). f.number == slot) functions))) [
      | true ↦ refl
      | false ↦ listed_at functions slot
    ]

-- all functions with a slot are on its bus
pub at_on_bus : (functions : List Function) (slot bus : ℕ) → bus_of_slot slot ≡ bus
    → function_listed (listed_functions (functions_on bus functions)) slot ≡ function_listed (listed_functions functions) slot
at_on_bus [] slot bus of = refl
at_on_bus (function ∷ functions) slot bus of =
    elim (cases_eq (bus_of_slot function.number) bus) [
      | inl same ↦ rw (eq-eqb (bus_of_slot function.number) bus same) (ap (λ l. cond (function.number == slot) (Some (listed_function function)) l) (at_on_bus functions slot bus of))
      | inr other ↦
          rw (ne_eqb (bus_of_slot function.number) bus other, ne_eqb function.number slot (λ same. other (ap bus_of_slot same ∙ of)))
          (at_on_bus functions slot bus of)
    ]

-- ---- the function at the first index whose slot is not below

-- what stands there is the function, where it has the slot
found_at : (functions : List Function) (slot index : ℕ) → FunctionsRise functions
    → IsPartitionPoint (λ (function : Function). ltb function.number slot ≡ true) (λ (function : Function). ltb function.number slot ≡ false) functions index
    → function_listed (listed_functions functions) slot ≡ option_map listed_function (if_numbered (λ (function : Function). function.number) slot (slice_get functions index))
found_at functions slot index rises point =
    listed_at functions slot
    ∙ ap (option_map listed_function)
    (found_numbered (λ (function : Function). function.number) slot functions index rises
    (λ k d inside below. ltb-true _ _ (point.0 k d (omega arith) below)) (λ k d past inside. ltb-false _ _ (point.1 k d past inside)))

pub is_found : (functions : List Function) (slot index : ℕ) (function : Function) → FunctionsRise functions
    → IsPartitionPoint (λ (function : Function). ltb function.number slot ≡ true) (λ (function : Function). ltb function.number slot ≡ false) functions index
    → true ≡ ltb index (length functions) → function ≡ get_or functions index function → function.number ≡ slot
    → Some (listed_function function) ≡ function_listed (listed_functions functions) slot
is_found functions slot index function rises point inside at same =
    sym (found_at functions slot index rises point
    ∙ ap (λ o. option_map listed_function (if_numbered (λ (function : Function). function.number) slot o))
    (slice_get_read functions (length functions) index function refl (ltb-true _ _ (sym inside)) at)
    ∙ ap (λ b. option_map listed_function (cond b (Some function) None)) (eq-eqb function.number slot same))

pub other_found : (functions : List Function) (slot index : ℕ) (function : Function) → FunctionsRise functions
    → IsPartitionPoint (λ (function : Function). ltb function.number slot ≡ true) (λ (function : Function). ltb function.number slot ≡ false) functions index
    → true ≡ ltb index (length functions) → function ≡ get_or functions index function → (function.number ≡ slot → ⊥)
    → None ≡ function_listed (listed_functions functions) slot
other_found functions slot index function rises point inside at other =
    sym (found_at functions slot index rises point
    ∙ ap (λ o. option_map listed_function (if_numbered (λ (function : Function). function.number) slot o))
    (slice_get_read functions (length functions) index function refl (ltb-true _ _ (sym inside)) at)
    ∙ ap (λ b. option_map listed_function (cond b (Some function) None)) (ne_eqb function.number slot other))

pub none_found : (functions : List Function) (slot index : ℕ) → FunctionsRise functions
    → IsPartitionPoint (λ (function : Function). ltb function.number slot ≡ true) (λ (function : Function). ltb function.number slot ≡ false) functions index
    → false ≡ ltb index (length functions) → None ≡ function_listed (listed_functions functions) slot
none_found functions slot index rises point past =
    sym (found_at functions slot index rises point
    ∙ ap (λ o. option_map listed_function (if_numbered (λ (function : Function). function.number) slot o))
    (slice_get_past functions index (ltb-false _ _ (sym past))))

-- ---- the functions of a bus

pub rise_on : (functions part : List Function) (bus : ℕ) → part ≡ functions_on bus functions → FunctionsRise functions → FunctionsRise part
rise_on functions part bus same rises =
    subst FunctionsRise (sym same) (IsNonDecreasingBy-filter (λ (function : Function). function.number) (λ (function : Function). bus_of_slot function.number == bus) functions rises)

-- one of a part is one of all
part_contains : (functions : List Function) (begin count : ℕ) (function : Function) → Contains (take count (drop begin functions)) function → Contains functions function
part_contains functions begin count function (k, inside, at) =
    let long : length (take count (drop begin functions)) ≡ min count (length (drop begin functions)) = length-take count (drop begin functions) in
    let rest : length (drop begin functions) ≡ length functions - begin = length-drop begin functions in (
      begin + k,
      omega (arith, inside, long, rest),
      sym (get_or-drop begin functions k function) ∙ sym (get_or-take count (drop begin functions) k function (omega (arith, inside, long))) ∙ at,
    )

pub one_of_all : (result : Option (Bor Function)) (functions part : List Function) (begin count : ℕ) → part ≡ take count (drop begin functions)
    → IfSome result (λ function. Contains part function.now) → IfSome result (λ function. Contains functions function.now)
one_of_all None functions part begin count same one = tt
one_of_all (Some function) functions part begin count same one =
    part_contains functions begin count function.now (subst (λ l. Contains l function.now) same one)
