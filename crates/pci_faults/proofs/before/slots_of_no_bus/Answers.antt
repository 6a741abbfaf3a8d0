use Rattle.std.proofs.Common.{sym, ap, subst, arith, take, ◌+◌}
use Rattle.std.proofs.lemmas.Bool.{both_ways}
use Rattle.judge_spec.specs.Told.{ToldRange}
use Rattle.pci_tree.specs.Roots.{buses_of}
use Rattle.pci_faults.specs.Before.{IsOfNoBus, IsSlotAdded, AreSlotsOf}
use Rattle.pci_faults.proofs.NamedSlots.{slots_less, slots_added}
use Rattle.pci_faults.proofs.before.slots_of_no_bus.Goals.{then-is_of_no_bus+in_ok-add_slot, else-is_of_no_bus}
use Rattle.pci_faults.proofs.before.slots_of_no_bus.Goals as goal

pub loop-range-preserved : goal.loop-range-preserved
loop-range-preserved g c =
    let r : ToldRange = c.range-item.result in
    elim c.if-is_of_no_bus.branch [
      | then-is_of_no_bus+in_ok-add_slot w ↦
          slots_added (IsOfNoBus (buses_of c.args.roots.now) c.args.dump.now) c.args.ranges.now c.loop-range.range-index r (omega (arith, c.loop-range-test.true)) c.range-item.is c.loop-range.slots.items c.loop-range.invariant c.requires.told
          (c.is_of_no_bus.ensures.0 w.if-is_of_no_bus.true) _
          (subst (λ slot. IsSlotAdded slot c.loop-range.slots.items c.if-is_of_no_bus.slots.items) (ap (λ (x : ToldRange). x.slot) c.range.view_is)
          (subst (λ v. IsSlotAdded c.range.inside.slot c.loop-range.slots.items v.items) (sym w.slots-is) w.in_ok-add_slot.ensures))
      | else-is_of_no_bus w ↦
          subst (λ v. AreSlotsOf (IsOfNoBus (buses_of c.args.roots.now) c.args.dump.now) (take (c.loop-range.range-index + 1) c.args.ranges.now) v.items) (sym w.slots-is)
          (slots_less (IsOfNoBus (buses_of c.args.roots.now) c.args.dump.now) c.args.ranges.now c.loop-range.range-index r (omega (arith, c.loop-range-test.true)) c.range-item.is c.loop-range.slots.items c.loop-range.invariant
          (λ is. both_ways c.is_of_no_bus.result w.if-is_of_no_bus.false (c.is_of_no_bus.ensures.1 is)))
    ]
