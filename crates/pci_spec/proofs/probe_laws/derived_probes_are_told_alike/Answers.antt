use Rattle.pci_spec.proofs.DerivedSystems.{derived_is_told_alike}
use Rattle.pci_spec.proofs.probe_laws.derived_probes_are_told_alike.Goals as goal

pub returns : goal.returns
returns c = derived_is_told_alike
