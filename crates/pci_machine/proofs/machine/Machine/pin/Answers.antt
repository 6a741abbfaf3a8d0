use Rattle.std.proofs.Common.{◌∙◌, sym, ap, slice_get}
use Rattle.std.proofs.lemmas.Bool.{cond-false}
use Rattle.pci_spec.specs.Slot.{same_slot}
use Rattle.pci_spec.specs.Port.{target_at}
use Rattle.pci_machine.specs.Memory.{pinned, pin_target, pin_targets}
use Rattle.pci_machine.proofs.Targets.{map-nowhere}
use Rattle.pci_machine.proofs.Memory.{IsMachine-pinned, machine-pinned}
use Rattle.pci_machine.proofs.machine.Machine.pin.Goals as goal

pub invariant_of-self : goal.invariant_of-self
invariant_of-self g c =
    let found = c.in-Some.ensures.found in
    IsMachine-pinned c.self.inside.functions.items c.args.slot c.in-Some.index found.0 c.index_mut-registers.result.now c.pin.new.self
    c.args.off c.args.mask c.self.invariant (ap (λ xs. slice_get xs c.in-Some.index) c.self.view_is ∙ found.1)
    (ap (λ xs. target_at xs c.args.slot) c.self.view_is ∙ found.2) c.index_mut-registers.ensures.value c.pin.ensures

pub returns-in-Some-clause-pinned : goal.returns-in-Some-clause-pinned
returns-in-Some-clause-pinned g c =
    let found = c.in-Some.ensures.found in
    machine-pinned c.self.inside.functions.items c.args.slot c.in-Some.index found.0 c.index_mut-registers.result.now c.pin.new.self
    c.args.off c.args.mask c.self.invariant (ap (λ xs. slice_get xs c.in-Some.index) c.self.view_is ∙ found.1)
    (ap (λ xs. target_at xs c.args.slot) c.self.view_is ∙ found.2) c.index_mut-registers.ensures.value c.pin.ensures
    ∙ ap (λ xs. pin_targets xs c.args.slot c.args.off c.args.mask) c.self.view_is

pub returns-in-None-clause-pinned : goal.returns-in-None-clause-pinned
returns-in-None-clause-pinned g c =
    sym (map-nowhere (pin_target c.args.slot c.args.off c.args.mask) c.args.self.now c.args.slot c.in-None.ensures.there
    (λ u miss. cond-false (same_slot u.slot c.args.slot) (pinned u c.args.off c.args.mask) u miss))
