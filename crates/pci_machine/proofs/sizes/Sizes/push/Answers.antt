use Rattle.std.proofs.Common.{◌++◌, ◌∷◌, [], List, ap, sym, subst, ◌∙◌}
use Rattle.std.proofs.lemmas.Bool.{both_ways}
use Rattle.std.proofs.lemmas.List.{map-append}
use Rattle.pci_spec.specs.Slot.{Slot, IsRising}
use Rattle.pci_spec.specs.SizesText.{SizesBlock, sized_slots}
use Rattle.pci_machine.proofs.sizes.Sizes.push.Goals as goal

pub returns-then-not-may_follow-clause-refused : goal.returns-then-not-may_follow-clause-refused
returns-then-not-may_follow-clause-refused g c rising =
    let slots = ap sized_slots (sym c.blocks-2.ensures.value) in
    let slot = ap (λ (b : SizesBlock). b.slot) (sym c.block.view_is) in
    let more = map-append (λ (b : SizesBlock). b.slot) c.args.self.now (c.args.block ∷ []) ∙ (λ i. slots i ++ slot i ∷ []) in
    both_ways _ c.if-not-may_follow.true (c.may_follow.ensures.1 (subst (λ (ss : List Slot). IsRising ss) more rising))
