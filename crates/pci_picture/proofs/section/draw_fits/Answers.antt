use Rattle.std.proofs.Common.{[]}
use Rattle.pci_picture.proofs.Boxes.{then_ok}
use Rattle.pci_picture.proofs.section.draw_fits.Goals as goal

pub returns : goal.returns
returns g c = then_ok c.add_cut.result [] _ _ _ c.in_ok-draw_fault.ensures c.add_cut.ensures.adds
