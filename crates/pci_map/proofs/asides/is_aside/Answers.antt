use Rattle.std.proofs.Common.{subst, refl, ap, sym, ◌∙◌, inl}
use Rattle.std.specs.Prelude.{MatchBool}
use Rattle.pci_spec.specs.Slot.{Slot}
use Rattle.pci_base.specs.Space.{space_of}
use Rattle.judge_spec.specs.Lines.{IsOutOfPlace}
use Rattle.judge_spec.specs.Regions.{Own}
use Rattle.pci_tree.specs.declared.region.Region.{Region}
use Rattle.pci_map.specs.Values.{value_of}
use Rattle.pci_map.proofs.Tolds.{is_region, found_on}
use Rattle.pci_map.proofs.Lefts.{first_address}
use Rattle.pci_map.proofs.AsideTexts.{aside_if}
use Rattle.pci_map.proofs.asides.is_aside.Goals as goal

pub returns-then-is_out_of_place : goal.returns-then-is_out_of_place
returns-then-is_out_of_place g c = λ told given t s above ways found.
    let q : Region = c.args.region.now in
    let space = space_of c.args.space in
    inl (subst (λ b. MatchBool b (IsOutOfPlace told given t.roots s (Own (value_of space q))) (IsOutOfPlace told given t.roots s (Own (value_of space q)) → ⊥)) c.if-is_out_of_place.true
    (c.is_out_of_place.ensures told given t s above (found_on s c.args.slot q.reg space q found _ c.bus.ensures)))

pub returns : goal.returns
returns g c = λ told given t s above ways found.
    let q : Region = c.args.region.now in
    let space = space_of c.args.space in
    let within = subst (λ b. MatchBool b (IsOutOfPlace told given t.roots s (Own (value_of space q))) (IsOutOfPlace told given t.roots s (Own (value_of space q)) → ⊥)) c.if-is_out_of_place.false
    (c.is_out_of_place.ensures told given t s above (found_on s c.args.slot q.reg space q found _ c.bus.ensures)) in
    aside_if told given t.roots s (Own (value_of space q)) c.is_left.result within
    (c.is_left.ensures given t s (Own (value_of space q)) above.tree ways (ap (λ (x : Slot). x.bus) found.slot_is ∙ sym c.bus-2.ensures) refl refl (first_address s space q (is_region s c.args.slot q.reg space q found)))
