use Rattle.pci_spec.proofs.Readable.{readable_without_faults}
use Rattle.pci_spec.proofs.probe_laws.readable_functions_have_no_fault_of_reading.Goals as goal

pub returns : goal.returns
returns c = readable_without_faults
