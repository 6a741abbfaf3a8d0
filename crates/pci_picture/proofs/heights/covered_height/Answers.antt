use Rattle.pci_picture.proofs.Doublings.{height_by_zeros}
use Rattle.pci_picture.proofs.heights.covered_height.Goals as goal

pub returns-clause-exact : goal.returns-clause-exact
returns-clause-exact c = height_by_zeros c.args.base c.args.count c.from.result c.ranges.count.fits c.from.ensures
