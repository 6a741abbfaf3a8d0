use Rattle.std.proofs.Common.{ℕ, ◌≡◌, ◌∙◌, get_or, subst, sym, inl, inr, arith, ap, false}
use Rattle.std.specs.Prelude.{MatchBool}
use Rattle.pci_spec.specs.Slot.{Slot}
use Rattle.pci_spec.specs.System.{Space}
use Rattle.judge_spec.specs.ToldClaims.{is_marked_held}
use Rattle.judge_spec.specs.ToldRegion.{ToldRegion}
use Rattle.judge_spec.specs.Regions.{OfLine}
use Rattle.pci_base.specs.declared.range.Range.{Range}
use Rattle.pci_base.specs.Space.{space_of}
use Rattle.pci_tree.specs.Ranges.{Holds, Covers}
use Rattle.pci_map.specs.Above.{IsSentAbove}
use Rattle.pci_map.specs.Addresses.{SpaceRanges, ranges_in, HasUnsent}
use Rattle.pci_map.specs.Seats.{told_region_value, told_range}
use Rattle.pci_map.proofs.Places.{nothing_out, held_in_place, function_there, last_there, line_answer}
use Rattle.pci_map.proofs.above.is_line_outside.Goals as goal

pub returns-then-above-bus : goal.returns-then-above-bus
returns-then-above-bus g c = λ told given t s above is_told is out.
    let x : ToldRegion = told_region_value c.args.line.now in
    let low = c.if-above-bus.true in elim above.rows [
      | inl nothing ↦ nothing_out told given t s nothing.io nothing.memory (OfLine x) out
      | inr rows ↦ (
          let size = rows.size in
          let bus = c.bus-bus.ensures in
          let slot = ap (λ (y : Slot). y.bus) c.slot.ensures in
          let byte = c.bus-bus.type_inv in
          let no : ⊥ = omega (arith, low, size, byte) in no)
    ]

pub returns-then-is_held : goal.returns-then-is_held
returns-then-is_held g c = λ told given t s above is_told is.
    held_in_place told given t s (told_region_value c.args.line.now) is (sym c.is_held.ensures ∙ c.if-is_held.true)

pub returns : goal.returns
returns g c = λ told given t s above is_told is.
    let x : ToldRegion = told_region_value c.args.line.now in
    let sent : SpaceRanges = c.index-above-bus.result in
    let low = c.if-above-bus.false in
    let not_held : is_marked_held x.told.mark ≡ false = sym c.is_held.ensures ∙ c.if-is_held.false in elim above.rows [
      | inl nothing ↦ (let none = nothing.none in absurd (let no : ⊥ = omega (arith, low, none) in no))
      | inr rows ↦ (
          let size = rows.size in
          let found = function_there told s x is not_held is_told in
          let bus : c.bus-bus.result ≡ x.told.slot.bus = c.bus-bus.ensures ∙ ap (λ (y : Slot). y.bus) c.slot.ensures in
          let there : found.0.slot.bus ≡ x.told.slot.bus = ap (λ (y : Slot). y.bus) found.2 in
          let row : IsSentAbove given t.roots s x.told.slot.bus sent =
          subst (λ n. IsSentAbove given t.roots s n sent) there
          (subst (IsSentAbove given t.roots s found.0.slot.bus) (ap (λ n. get_or c.args.above.now n sent) (there ∙ sym bus) ∙ sym c.index-above-bus.is) (rows.each found.0 sent found.1 (omega (arith, low, size, there, bus)))) in
          line_answer told given t s x is sent row c.has_all.result not_held (last_there told s x is is_told.lawful)
          (subst (λ (sp : Space). MatchBool c.has_all.result ((a : ℕ) → Holds (told_range x.told) a → Covers (ranges_in sp sent) a) (HasUnsent (ranges_in sp sent) (told_range x.told))) c.space.ensures
          (subst (λ (r : Range). MatchBool c.has_all.result ((a : ℕ) → Holds r a → Covers (ranges_in (space_of c.space.result) sent) a) (HasUnsent (ranges_in (space_of c.space.result) sent) r)) c.range.ensures c.has_all.ensures)))
    ]
