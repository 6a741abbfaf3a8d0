use Rattle.std.proofs.Common.{refl}
use Rattle.pci_image.proofs.Comparators.{value_and_high, first_or_low}
use Rattle.pci_image.proofs.comparator.aligned.Goals as goal

pub returns : goal.returns
returns c =
    let first = value_and_high c.args.value c.args.size_log2 c.ranges.value.fits c.requires in
    let last = first_or_low c.args.value c.args.size_log2 c.requires in
    rw (first, last) refl
