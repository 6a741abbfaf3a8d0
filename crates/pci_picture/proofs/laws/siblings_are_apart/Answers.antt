use Rattle.pci_picture.proofs.Siblings.{siblings_are_apart}
use Rattle.pci_picture.proofs.laws.siblings_are_apart.Goals as goal

pub returns : goal.returns
returns c = siblings_are_apart
