use Rattle.pci_image.proofs.Comparators.{rest_is_within}
use Rattle.pci_image.proofs.comparator.fits_within.Goals as goal

pub returns : goal.returns
returns c = rest_is_within c.args.value c.args.mask c.ranges.value.fits c.ranges.mask.fits
