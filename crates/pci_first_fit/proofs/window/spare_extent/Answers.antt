use Rattle.std.proofs.Common.{refl}
use Rattle.pci_base.specs.WindowKinds.{kind_value}
use Rattle.pci_first_fit.proofs.Spares.{spare_around}
use Rattle.pci_first_fit.proofs.window.spare_extent.Goals as goal

pub returns-clause-around : goal.returns-clause-around
returns-clause-around c =
    spare_around (kind_value c.args.class) c.args.wanted c.args.highest c.page_size.result c.requires c.page_size.ensures c.raised.result c.raised.ensures c.in_ok-size.size c.in_ok-size.was _ refl
