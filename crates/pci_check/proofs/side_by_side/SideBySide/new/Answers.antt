use Rattle.pci_tree.specs.Roots.{buses_of}
use Rattle.pci_check.proofs.Beside.{beside_first}
use Rattle.pci_check.proofs.side_by_side.SideBySide.new.Goals as goal

pub returns-clause-beside : goal.returns-clause-beside
returns-clause-beside g c texts = beside_first texts (buses_of c.args.roots) _ _ _ c.new.ensures c.new-2.ensures c.with.ensures.value c.with.ensures.none
