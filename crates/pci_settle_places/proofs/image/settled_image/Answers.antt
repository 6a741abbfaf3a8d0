use Rattle.std.proofs.Common.{◌∙◌}
use Rattle.pci_settle_places.proofs.PlacedImages.{images_are}
use Rattle.pci_settle_places.proofs.image.settled_image.Goals as goal

pub returns : goal.returns
returns c = λ q s keep f shown placed.
    c.with_parts.ensures
    ∙ images_are q s keep f c.args.«record».now c.args.image.now.0 c.args.places.now c.args.shown.now.staying.kept.now.windows c.args.shown.now.staying.grown.now c.args.shown.now.wished.now shown placed
