use Rattle.std.proofs.Common.{refl}
use Rattle.std.proofs.lemmas.Simd.{zip2_splat}
use Rattle.pci_picture.proofs.Feeds.{feed_found}
use Rattle.pci_picture.proofs.reading.feed_of_16.Goals as goal

pub returns : goal.returns
returns c =
    feed_found c.args.sixteen.now _ _ _ c.told-sixteen c.fits-sixteen c.lowest_of_16.ensures
    (zip2_splat _ c.args.sixteen.now 16 10 c.told-sixteen) refl
