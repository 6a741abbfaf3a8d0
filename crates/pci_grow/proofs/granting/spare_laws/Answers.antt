use Rattle.pci_grow.proofs.ToldSpares.{spares_are_told}
use Rattle.pci_grow.proofs.granting.spare_laws.Goals as goal

pub returns : goal.returns
returns c = spares_are_told
