-- There are numbers for all bridges, or one is without.
use Rattle.std.proofs.Common.{◌≡◌, ℕ, suc, ◌+◌, ◌≤◌, inl, inr, List, ◌∷◌, ◌++◌, true, false, not, arith, refl, sym, ◌∙◌, ap, subst, length, None}
use Rattle.std.specs.Bool.{◌==◌}
use Rattle.std.proofs.lemmas.Bool.{and_parts, eqb-true, eqb-false, cases_Bool, not-true, not-false}
use Rattle.std.proofs.lemmas.List.{length-append}
use Rattle.pci_spec.specs.Header.{secondary_bus}
use Rattle.pci_number.specs.Board.{Nodes, NoMore, Node, is_type_1}
use Rattle.pci_number.specs.Walk.{has_bus}
use Rattle.pci_number.specs.Numbered.{secondaries}
use Rattle.pci_number.specs.NoBus.{first_without, bridges}
use Rattle.pci_number.specs.NumberingLaws.{EnoughForAll}
use Rattle.pci_number.proofs.InOrder.{IsRun, run_from, run_parts, number_or_none, of_device, of_closed, of_open}
use Rattle.pci_number.proofs.Same.{both_none, first_device}
use Rattle.pci_number.proofs.Listed.{of_leading, none_without}

device_counts : (d f : ℕ) (image : List ℕ) (behind others : Nodes) → is_type_1 image ≡ false → bridges (Node d f image behind others) ≡ bridges others
device_counts d f image behind others plain = rw plain refl

bridge_counts : (d f : ℕ) (image : List ℕ) (behind others : Nodes) → is_type_1 image ≡ true → bridges (Node d f image behind others) ≡ 1 + bridges behind + bridges others
bridge_counts d f image behind others bridge = rw bridge refl

-- so many bridges are counted, and there are numbers for them after the first n
record Fits (root : ℕ) (last : ℕ) (n : ℕ) (nodes : Nodes) : Type 0 where
  count : length (secondaries nodes) ≡ bridges nodes
  upto : root + n + bridges nodes ≤ last

fits : (root last n bus : ℕ) (nodes : Nodes) → root + n ≤ last → IsRun root last n (secondaries nodes) → first_without bus nodes ≡ None → Fits root last n nodes
fits root last n bus NoMore low run none = record { count = refl; upto = omega (arith, low) }
fits root last n bus (Node d f image behind others) low run none = elim (cases_Bool (is_type_1 image)) [
  | inr plain ↦
      let list = of_device d f image behind others plain in
      let rest = fits root last n bus others low (subst (IsRun root last n) list run) (sym (first_device bus d f image behind others plain) ∙ none) in
      let same = device_counts d f image behind others plain in
      record { count = ap length list ∙ rest.count ∙ sym same; upto = omega (arith, rest.upto, same) }
  | inl bridge ↦
      let leads = none_without bus d f image behind others bridge none in
      let nones = both_none (first_without (secondary_bus image) behind) (first_without bus others) (sym (of_leading bus d f image behind others leads) ∙ none) in
      let list = of_open d f image behind others bridge leads in
      let runs : IsRun root last n (secondary_bus image ∷ (secondaries behind ++ secondaries others)) = subst (IsRun root last n) list run in
      let some = and_parts (is_type_1 image) (not (secondary_bus image == 0)) leads in
      let not_0 = eqb-false (secondary_bus image) 0 (not-true (secondary_bus image == 0) some.1) in
      let left : root + (n + 1) ≤ last = elim (number_or_none root last (n + 1)) [ inl has ↦ has.1 | inr gone ↦ absurd (not_0 (runs.0 ∙ gone.0)) ] in
      let pieces = run_parts root last (n + 1) (secondaries behind) (secondaries others) runs.1 in
      let inner = fits root last (n + 1) (secondary_bus image) behind left pieces.0 nones.0 in
      let outer = fits root last (n + 1 + length (secondaries behind)) bus others (omega (arith, inner.count, inner.upto)) pieces.1 nones.1 in
      let count : length (secondaries (Node d f image behind others)) ≡ suc (length (secondaries behind) + length (secondaries others)) = ap length list ∙ ap suc (length-append (secondaries behind) (secondaries others)) in
      let all = bridge_counts d f image behind others bridge in
      record { count = omega (arith, count, inner.count, outer.count, all); upto = omega (arith, inner.count, outer.upto, all) }
]

-- and back
record NoneWants (bus : ℕ) (nodes : Nodes) : Type 0 where
  count : length (secondaries nodes) ≡ bridges nodes
  none : first_without bus nodes ≡ None

none_wants : (root last n bus : ℕ) (nodes : Nodes) → IsRun root last n (secondaries nodes) → root + n + bridges nodes ≤ last → NoneWants bus nodes
none_wants root last n bus NoMore run upto = record { count = refl; none = refl }
none_wants root last n bus (Node d f image behind others) run upto = elim (cases_Bool (is_type_1 image)) [
  | inr plain ↦
      let list = of_device d f image behind others plain in
      let same = device_counts d f image behind others plain in
      let rest = none_wants root last n bus others (subst (IsRun root last n) list run) (omega (arith, upto, same)) in
      record { count = ap length list ∙ rest.count ∙ sym same; none = first_device bus d f image behind others plain ∙ rest.none }
  | inl bridge ↦
      let all = bridge_counts d f image behind others bridge in
      elim (cases_Bool (has_bus image)) [
        | inr closed ↦
            let list = of_closed d f image behind others bridge closed in
            let runs : IsRun root last n (secondary_bus image ∷ secondaries others) = subst (IsRun root last n) list run in
            let shut : not (secondary_bus image == 0) ≡ false = rw bridge at closed in
            let zero = eqb-true (secondary_bus image) 0 (not-false (secondary_bus image == 0) shut) in
            absurd (elim (number_or_none root last (n + 1)) [
              | inl has ↦ omega (arith, runs.0, has.0, zero)
              | inr gone ↦ omega (arith, gone.1, upto, all)
            ])
        | inl leads ↦
            let list = of_open d f image behind others bridge leads in
            let runs : IsRun root last n (secondary_bus image ∷ (secondaries behind ++ secondaries others)) = subst (IsRun root last n) list run in
            let pieces = run_parts root last (n + 1) (secondaries behind) (secondaries others) runs.1 in
            let inner = none_wants root last (n + 1) (secondary_bus image) behind pieces.0 (omega (arith, upto, all)) in
            let outer = none_wants root last (n + 1 + length (secondaries behind)) bus others pieces.1 (omega (arith, upto, all, inner.count)) in
            let count : length (secondaries (Node d f image behind others)) ≡ suc (length (secondaries behind) + length (secondaries others)) = ap length list ∙ ap suc (length-append (secondaries behind) (secondaries others)) in
            record {
              count = omega (arith, count, inner.count, outer.count, all);
              none = of_leading bus d f image behind others leads ∙ (rw (inner.none, outer.none) refl);
            }
      ]
]

pub enough_for_all : EnoughForAll
enough_for_all root last before after low numbered =
    let run = run_from root last 0 (secondaries after) numbered.order in (
      λ none. let all = fits root last 0 root after (omega (arith, low)) run none in omega (arith, all.upto),
      λ upto. (none_wants root last 0 root after run (omega (arith, upto))).none,
    )
