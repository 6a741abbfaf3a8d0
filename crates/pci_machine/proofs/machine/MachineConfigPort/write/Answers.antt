use Rattle.std.proofs.Common.{◌∙◌, ap, slice_get}
use Rattle.pci_spec.specs.Machine.{write_targets}
use Rattle.pci_spec.specs.Port.{target_at}
use Rattle.pci_machine.proofs.Memory.{IsMachine-written, machine-written, lawful-written}
use Rattle.pci_machine.proofs.machine.MachineConfigPort.write.Goals as goal

pub invariant_of-self : goal.invariant_of-self
invariant_of-self g c =
    let found = c.in-Some.ensures.found in
    IsMachine-written c.self.inside.functions.items c.args.slot c.in-Some.index found.0 c.index_mut-registers.result.now c.write.new.self
    c.args.off c.args.width c.args.value c.self.invariant (ap (λ xs. slice_get xs c.in-Some.index) c.self.view_is ∙ found.1)
    (ap (λ xs. target_at xs c.args.slot) c.self.view_is ∙ found.2) c.index_mut-registers.ensures.value c.write.ensures

pub returns-clause-written : goal.returns-clause-written
returns-clause-written g c =
    let found = c.in-Some.ensures.found in
    machine-written c.self.inside.functions.items c.args.slot c.in-Some.index found.0 c.index_mut-registers.result.now c.write.new.self
    c.args.off c.args.width c.args.value c.self.invariant (ap (λ xs. slice_get xs c.in-Some.index) c.self.view_is ∙ found.1)
    (ap (λ xs. target_at xs c.args.slot) c.self.view_is ∙ found.2) c.index_mut-registers.ensures.value c.write.ensures
    ∙ ap (λ xs. write_targets xs record { slot = c.args.slot; offset = c.args.off; width = c.args.width; value = c.args.value }) c.self.view_is

pub returns-clause-lawful : goal.returns-clause-lawful
returns-clause-lawful g c =
    let found = c.in-Some.ensures.found in
    lawful-written c.self.inside.functions.items c.args.slot c.in-Some.index found.0 c.index_mut-registers.result.now c.write.new.self
    c.args.off c.args.width c.args.value c.self.invariant (ap (λ xs. slice_get xs c.in-Some.index) c.self.view_is ∙ found.1)
    (ap (λ xs. target_at xs c.args.slot) c.self.view_is ∙ found.2) c.index_mut-registers.ensures.value c.write.ensures

pub returns-clause-once : goal.returns-clause-once
returns-clause-once g c = returns-clause-written g c
