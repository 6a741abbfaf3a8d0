use Rattle.std.proofs.Common.{ap, sym, ◌∙◌}
use Rattle.pci_spec.specs.Slot.{same_slot}
use Rattle.pci_first_fit.proofs.Spares.{same_of, slot_next, slot_here, slot_none}
use Rattle.pci_first_fit.proofs.slots.Slots.has.Goals as goal

pub returns-then-eq : goal.returns-then-eq
returns-then-eq c =
    slot_here c.args.bridge c.args.self.now.bridges.now c.loop-one.one-index c.one-item.result _ c.loop-one-test.true c.loop-one.invariant
    (ap (same_slot c.args.bridge) (sym c.one-item.is) ∙ same_of c.args.bridge c.one-item.result _ (sym c.eq.ensures ∙ c.if-eq.true))

pub loop-one-preserved : goal.loop-one-preserved
loop-one-preserved c =
    slot_next c.args.bridge c.args.self.now.bridges.now c.loop-one.one-index c.one-item.result _ c.loop-one-test.true c.loop-one.invariant
    (ap (same_slot c.args.bridge) (sym c.one-item.is) ∙ same_of c.args.bridge c.one-item.result _ (sym c.eq.ensures ∙ c.if-eq.false))

pub returns : goal.returns
returns c = slot_none c.args.bridge c.args.self.now.bridges.now c.loop-one.one-index _ c.loop-one-test.false c.loop-one.invariant
