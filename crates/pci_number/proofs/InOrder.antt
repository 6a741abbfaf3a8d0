-- Bridges that are numbered in the order of the walk have ranges that are apart, and inside those above them.
use Rattle.std.proofs.Common.{◌≡◌, ◌≢◌, ℕ, suc, ◌+◌, ◌<◌, ◌≤◌, ◌⊎◌, inl, inr, List, [], ◌∷◌, ◌++◌, true, false, ◌&&◌, ◌||◌, not, arith, refl, sym, ◌∙◌, ap, subst, length, map, max, min}
use Rattle.std.specs.Bool.{nat_le, ◌==◌}
use Rattle.std.specs.List.{range_with_len}
use Rattle.std.proofs.lemmas.Bool.{and_parts, eqb-true, eqb-false, leb-true, leb-false, cases_Bool, not-true, not-false}
use Rattle.std.proofs.lemmas.List.{length-append}
use Rattle.pci_spec.specs.Header.{primary_bus, secondary_bus, subordinate_bus}
use Rattle.pci_number.specs.Board.{Nodes, NoMore, Node, is_type_1}
use Rattle.pci_number.specs.Walk.{has_bus}
use Rattle.pci_number.specs.Numbered.{secondaries, secondary_number, greatest_from, has_range, have_ranges}
use Rattle.pci_spec.proofs.BusRanges.{second_side}
use Rattle.pci_number.proofs.Single.{IsRanged, outside_is_idle}

-- the bus of the n-th bridge, or the last one where that would be above it
abbrev pub top : ℕ → ℕ → ℕ → ℕ
top root last n = min last (root + n)

-- the numbers after the first n in the order of the walk
abbrev pub IsRun : ℕ → ℕ → ℕ → List ℕ → Type 0
IsRun root last n [] = Unit {0}
IsRun root last n (x ∷ xs) = (x ≡ secondary_number root last (n + 1)) × IsRun root last (n + 1) xs

pub run_from : (root last n : ℕ) (xs : List ℕ) → xs ≡ map (secondary_number root last) (range_with_len (n + 1) (length xs)) → IsRun root last n xs
run_from root last n [] e = tt
run_from root last n (x ∷ xs) e = (cc e, run_from root last (n + 1) xs (cc e))

-- and back
pub run_is : (root last n : ℕ) (xs : List ℕ) → IsRun root last n xs → xs ≡ map (secondary_number root last) (range_with_len (n + 1) (length xs))
run_is root last n [] run = refl
run_is root last n (x ∷ xs) run = let rest = run_is root last (n + 1) xs run.1 in let first : x ≡ secondary_number root last (n + 1) = run.0 in cc

pub run_parts : (root last n : ℕ) (xs ys : List ℕ) → IsRun root last n (xs ++ ys) → IsRun root last n xs × IsRun root last (n + length xs) ys
run_parts root last n [] ys run = (tt, subst (λ k. IsRun root last k ys) (omega arith) run)
run_parts root last n (x ∷ xs) ys run =
    let rest = run_parts root last (n + 1) xs ys run.1 in
    ((run.0, rest.0), subst (λ k. IsRun root last k ys) (omega arith) rest.1)

-- the number that comes next is the greatest so far, or there is none left
top_next : (root last n : ℕ) → max (top root last n) (secondary_number root last (n + 1)) ≡ top root last (n + 1)
top_next root last n = elim (cases_Bool (nat_le (root + (n + 1)) last)) [
  | inl fits ↦ rw fits (omega (arith, leb-true (root + (n + 1)) last fits))
  | inr over ↦ rw over (omega (arith, leb-false (root + (n + 1)) last over))
]

pub greatest_of_run : (root last n : ℕ) (xs : List ℕ) → IsRun root last n xs → greatest_from (top root last n) xs ≡ top root last (n + length xs)
greatest_of_run root last n [] run = ap (top root last) (omega arith)
greatest_of_run root last n (x ∷ xs) run =
    ap (λ m. greatest_from m xs) (ap (max (top root last n)) run.0 ∙ top_next root last n) ∙ greatest_of_run root last (n + 1) xs run.1 ∙ ap (top root last) (omega arith)

-- whether there is a number left for a bridge
pub number_or_none : (root last n : ℕ) → ((secondary_number root last n ≡ root + n) × (root + n ≤ last)) ⊎ ((secondary_number root last n ≡ 0) × (last < root + n))
number_or_none root last n = elim (cases_Bool (nat_le (root + n) last)) [
  | inl fits ↦ inl (rw fits refl, leb-true (root + n) last fits)
  | inr over ↦ inr (rw over refl, leb-false (root + n) last over)
]

-- the numbers of a node and those behind it come before those that follow on its bus
pub of_device : (device function : ℕ) (image : List ℕ) (behind others : Nodes) → is_type_1 image ≡ false → secondaries (Node device function image behind others) ≡ secondaries others
of_device device function image behind others plain = rw plain refl

pub of_closed : (device function : ℕ) (image : List ℕ) (behind others : Nodes) → is_type_1 image ≡ true → has_bus image ≡ false → secondaries (Node device function image behind others) ≡ secondary_bus image ∷ secondaries others
of_closed device function image behind others bridge closed = rw (closed, bridge) refl

pub of_open : (device function : ℕ) (image : List ℕ) (behind others : Nodes) → is_type_1 image ≡ true → has_bus image ≡ true → secondaries (Node device function image behind others) ≡ secondary_bus image ∷ (secondaries behind ++ secondaries others)
of_open device function image behind others bridge leads = rw (leads, bridge) refl

-- what the numbers of a bridge are, by whether it has a bus
closed_shows_0 : (bus : ℕ) (image : List ℕ) (behind : Nodes) → is_type_1 image ≡ true → has_bus image ≡ false → has_range bus image behind ≡ true → (secondary_bus image ≡ 0) × (subordinate_bus image ≡ 0)
closed_shows_0 bus image behind bridge closed range =
    let none : not (secondary_bus image == 0) ≡ false = rw bridge at closed in
    let zeros : (primary_bus image == 0 && subordinate_bus image == 0) ≡ true = rw closed at range in
    (eqb-true (secondary_bus image) 0 (not-false (secondary_bus image == 0) none), eqb-true (subordinate_bus image) 0 (and_parts (primary_bus image == 0) (subordinate_bus image == 0) zeros).1)

open_shows_greatest : (bus : ℕ) (image : List ℕ) (behind : Nodes) → has_bus image ≡ true → has_range bus image behind ≡ true → (secondary_bus image ≢ 0) × (subordinate_bus image ≡ greatest_from (secondary_bus image) (secondaries behind))
open_shows_greatest bus image behind leads range =
    let some = and_parts (is_type_1 image) (not (secondary_bus image == 0)) leads in
    let shows : (primary_bus image == bus && subordinate_bus image == greatest_from (secondary_bus image) (secondaries behind)) ≡ true = rw leads at range in
    (eqb-false (secondary_bus image) 0 (not-true (secondary_bus image == 0) some.1), eqb-true (subordinate_bus image) (greatest_from (secondary_bus image) (secondaries behind)) (and_parts (primary_bus image == bus) (subordinate_bus image == greatest_from (secondary_bus image) (secondaries behind)) shows).1)

-- a range by other names
between : (low high a b : ℕ) (nodes : Nodes) → low ≡ a → high ≡ b → IsRanged low high nodes → IsRanged a b nodes
between low high a b nodes same_low same_high ranged = subst (λ x. IsRanged x b nodes) same_low (subst (λ x. IsRanged low x nodes) same_high ranged)

pub ranged : (root last n bus : ℕ) (nodes : Nodes) (xs : List ℕ) → secondaries nodes ≡ xs → IsRun root last n xs → have_ranges bus nodes ≡ true → IsRanged (top root last n) (top root last (n + length xs)) nodes
ranged root last n bus NoMore xs is run ranges = omega arith
ranged root last n bus (Node d f image behind others) xs is run ranges =
    let parts = and_parts ((not (is_type_1 image) || has_range bus image behind) && (not (has_bus image) || have_ranges (secondary_bus image) behind)) (have_ranges bus others) ranges in
    let first = and_parts (not (is_type_1 image) || has_range bus image behind) (not (has_bus image) || have_ranges (secondary_bus image) behind) parts.0 in
    elim (cases_Bool (is_type_1 image)) [
      | inr plain ↦ inl ((λ to above. (rw plain refl, rw plain refl)), ranged root last n bus others xs (sym (of_device d f image behind others plain) ∙ is) run parts.1)
      | inl bridge ↦
          let range : has_range bus image behind ≡ true = second_side (not (is_type_1 image)) (has_range bus image behind) first.0 (ap not bridge) in
          elim (cases_Bool (has_bus image)) [
            | inr closed ↦
                let shows = closed_shows_0 bus image behind bridge closed range in
                let split = sym is ∙ of_closed d f image behind others bridge closed in
                let runs : IsRun root last n (secondary_bus image ∷ secondaries others) = subst (IsRun root last n) split run in
                let over : last < root + (n + 1) = elim (number_or_none root last (n + 1)) [ inl fits ↦ omega (arith, runs.0, shows.0, fits.0) | inr none ↦ none.1 ] in
                let count : length xs ≡ suc (length (secondaries others)) = ap length split in
                inl (
                  (λ to above. outside_is_idle image to (inr (omega (arith, shows.1))) (omega (arith, shows.0))),
                  between (top root last (n + 1)) (top root last (n + 1 + length (secondaries others))) (top root last n) (top root last (n + length xs)) others (omega arith) (omega arith)
                      (ranged root last (n + 1) bus others (secondaries others) refl runs.1 parts.1),
                )
            | inl leads ↦
                let shows = open_shows_greatest bus image behind leads range in
                let split = sym is ∙ of_open d f image behind others bridge leads in
                let runs : IsRun root last n (secondary_bus image ∷ (secondaries behind ++ secondaries others)) = subst (IsRun root last n) split run in
                let fits : (secondary_number root last (n + 1) ≡ root + (n + 1)) × (root + (n + 1) ≤ last) = elim (number_or_none root last (n + 1)) [ inl fits ↦ fits | inr none ↦ absurd (shows.0 (runs.0 ∙ none.0)) ] in
                let own : secondary_bus image ≡ top root last (n + 1) = omega (arith, runs.0, fits.0, fits.1) in
                let pieces = run_parts root last (n + 1) (secondaries behind) (secondaries others) runs.1 in
                let end : subordinate_bus image ≡ top root last (n + 1 + length (secondaries behind)) =
                shows.1 ∙ ap (λ m. greatest_from m (secondaries behind)) own ∙ greatest_of_run root last (n + 1) (secondaries behind) pieces.0 in
                let count : length xs ≡ suc (length (secondaries behind) + length (secondaries others)) = ap length split ∙ ap suc (length-append (secondaries behind) (secondaries others)) in
                inr (
                  omega (arith, own, fits.1),
                  omega (arith, own, end),
                  between (top root last (n + 1)) (top root last (n + 1 + length (secondaries behind))) (secondary_bus image) (subordinate_bus image) behind (sym own) (sym end)
                      (ranged root last (n + 1) (secondary_bus image) behind (secondaries behind) refl pieces.0
                      (second_side (not (has_bus image)) (have_ranges (secondary_bus image) behind) first.1 (ap not leads))),
                  between (top root last (n + 1 + length (secondaries behind))) (top root last (n + 1 + length (secondaries behind) + length (secondaries others))) (subordinate_bus image) (top root last (n + length xs)) others (sym end) (omega arith)
                      (ranged root last (n + 1 + length (secondaries behind)) bus others (secondaries others) refl pieces.1 parts.1),
                )
          ]
    ]
