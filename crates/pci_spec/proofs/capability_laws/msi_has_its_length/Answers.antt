use Rattle.pci_spec.proofs.CapabilityLaws.{msi_length_by_bits}
use Rattle.pci_spec.proofs.capability_laws.msi_has_its_length.Goals as goal

pub returns : goal.returns
returns c = msi_length_by_bits
