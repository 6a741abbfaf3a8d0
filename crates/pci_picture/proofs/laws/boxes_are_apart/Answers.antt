use Rattle.pci_picture.proofs.Apart.{boxes_are_apart}
use Rattle.pci_picture.proofs.laws.boxes_are_apart.Goals as goal

pub returns : goal.returns
returns c = boxes_are_apart
