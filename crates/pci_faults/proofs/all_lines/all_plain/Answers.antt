use Rattle.std.proofs.Common.{List, ◌++◌, map, ◌∙◌, ap}
use Rattle.pci_function.specs.declared.fault.Fault.{Fault}
use Rattle.pci_faults.specs.declared.any_fault.AnyFault.{AnyFault}
use Rattle.pci_faults.specs.AllLines.{any_fault_value, plain_fault}
use Rattle.pci_faults.proofs.WithNothing.{plain_lines}
use Rattle.pci_faults.proofs.all_lines.all_plain.Goals as goal

pub returns : goal.returns
returns g c asleep =
    plain_lines asleep c.args.outline.now c.in_ok-known.known.items c.add_without_told.new.faults.items
    (c.in_ok-add_without_told.ensures ∙ ap (λ (l : List Fault). map any_fault_value c.new-faults.result.items ++ map plain_fault l) c.deref.ensures.value
    ∙ ap (λ (l : List AnyFault). map any_fault_value l ++ map plain_fault c.in_ok-known.known.items) c.new-faults.ensures.items)
    c.in_ok-known.ensures
