use Rattle.pci_base.specs.Space.{space_of}
use Rattle.pci_tree.specs.Regions.{AreRegionsOf}
use Rattle.pci_tree.proofs.Orders.{sorted_regions}
use Rattle.pci_tree.proofs.outline.Outline.sorted.Goals as goal

pub returns : goal.returns
returns g c = λ s has. (
    let are : AreRegionsOf s c.args.bus (space_of c.args.space) c.in_ok-regions.regions.items = c.in_ok-regions.ensures s has in
    sorted_regions s c.args.bus (space_of c.args.space) _ _ c.in_ok-sort_by_first.ensures.permutation are (c.in_ok-sort_by_first.ensures.sorted are.rising))
