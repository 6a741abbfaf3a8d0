use Rattle.pci_spec.proofs.DerivedSystems.{derived_sizes_are_own}
use Rattle.pci_spec.proofs.probe_laws.derived_sizes_are_own.Goals as goal

pub returns : goal.returns
returns c = derived_sizes_are_own
