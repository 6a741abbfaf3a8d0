use Rattle.std.proofs.Common.{◌/◌, arith}
use Rattle.pci_image.proofs.PlaceSets.{bit-added}
use Rattle.pci_image.proofs.place_set.PlaceSet.insert.Goals as goal

pub returns : goal.returns
returns c k = let small = c.ranges.place.fits in bit-added c.args.self.now.bits (c.args.place / 4) k (omega (arith, small))
