use Rattle.std.proofs.Common.{ap, ◌∙◌, ◌++◌}
use Rattle.std.proofs.lemmas.Result.{on_ok_weaker}
use Rattle.pci_base.specs.Space.{space_of}
use Rattle.pci_tree.specs.Regions as tree
use Rattle.pci_map.proofs.Tolds.{found_by}
use Rattle.pci_map.proofs.asides.find_regions.Goals as goal

pub returns : goal.returns
returns g c =
    on_ok_weaker c.add_regions.result
    (λ same s is. found_by s c.args.function.now (space_of c.args.space) c.add_regions.new.out.items
    (same ∙ ap (λ xs. xs ++ tree.regions_of c.args.function.now (space_of c.args.space)) c.clear.ensures.items) is)
    c.add_regions.ensures
