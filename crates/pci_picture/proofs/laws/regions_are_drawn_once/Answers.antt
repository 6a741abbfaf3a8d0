use Rattle.pci_picture.proofs.Once.{each_once}
use Rattle.pci_picture.proofs.laws.regions_are_drawn_once.Goals as goal

pub returns : goal.returns
returns c = each_once
