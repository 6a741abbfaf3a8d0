use Rattle.pci_spec.proofs.Nesting.{nested_without_bus_faults, no_bus_fault_where_nested}
use Rattle.pci_spec.proofs.nesting_laws.nesting_follows.Goals as goal

pub returns-clause-from_no_fault : goal.returns-clause-from_no_fault
returns-clause-from_no_fault c = nested_without_bus_faults

pub returns-clause-to_no_fault : goal.returns-clause-to_no_fault
returns-clause-to_no_fault c = no_bus_fault_where_nested
