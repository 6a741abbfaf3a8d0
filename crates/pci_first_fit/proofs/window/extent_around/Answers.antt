use Rattle.pci_base.specs.WindowKinds.{kind_value}
use Rattle.pci_first_fit.proofs.Around.{around_some}
use Rattle.pci_first_fit.proofs.window.extent_around.Goals as goal

pub returns-clause-some : goal.returns-clause-some
returns-clause-some g c some =
    around_some (kind_value c.args.class) c.args.extents.now _ _ _ _ c.in-Some.end _ _ c.page_size-page.ensures c.in_ok-end.ensures c.in-Some.is c.in-Some-raised.ensures.1 c.alignment_around.ensures some
