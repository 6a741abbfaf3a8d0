use Rattle.std.proofs.Common.{sym, ap, subst, arith, take, ◌+◌}
use Rattle.std.proofs.lemmas.Bool.{both_ways}
use Rattle.judge_spec.specs.Told.{ToldRange}
use Rattle.pci_faults.specs.Before.{IsOfNoFunction, IsSlotAdded, AreSlotsOf}
use Rattle.pci_faults.proofs.NamedSlots.{slots_less, slots_added}
use Rattle.pci_faults.proofs.before.slots_not_listed.Goals.{then-is_of_no_function+in_ok-add_slot, else-is_of_no_function}
use Rattle.pci_faults.proofs.before.slots_not_listed.Goals as goal

pub loop-range-preserved : goal.loop-range-preserved
loop-range-preserved g c =
    let r : ToldRange = c.range-item.result in
    elim c.if-is_of_no_function.branch [
      | then-is_of_no_function+in_ok-add_slot w ↦
          slots_added (IsOfNoFunction c.args.dump.now) c.args.ranges.now c.loop-range.range-index r (omega (arith, c.loop-range-test.true)) c.range-item.is c.loop-range.slots.items c.loop-range.invariant c.requires.told
          (c.is_of_no_function.ensures.0 w.if-is_of_no_function.true) _
          (subst (λ slot. IsSlotAdded slot c.loop-range.slots.items c.if-is_of_no_function.slots.items) (ap (λ (x : ToldRange). x.slot) c.range.view_is)
          (subst (λ v. IsSlotAdded c.range.inside.slot c.loop-range.slots.items v.items) (sym w.slots-is) w.in_ok-add_slot.ensures))
      | else-is_of_no_function w ↦
          subst (λ v. AreSlotsOf (IsOfNoFunction c.args.dump.now) (take (c.loop-range.range-index + 1) c.args.ranges.now) v.items) (sym w.slots-is)
          (slots_less (IsOfNoFunction c.args.dump.now) c.args.ranges.now c.loop-range.range-index r (omega (arith, c.loop-range-test.true)) c.range-item.is c.loop-range.slots.items c.loop-range.invariant
          (λ is. both_ways c.is_of_no_function.result w.if-is_of_no_function.false (c.is_of_no_function.ensures.1 is)))
    ]
