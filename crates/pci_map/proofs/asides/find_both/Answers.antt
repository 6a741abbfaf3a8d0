use Rattle.std.proofs.lemmas.Result.{on_ok_weaker}
use Rattle.pci_map.proofs.asides.find_both.Goals as goal

pub returns : goal.returns
returns g c =
    on_ok_weaker c.find_regions-2.result
    (λ last s is. (c.in_ok-find_regions.ensures s is, last s is))
    c.find_regions-2.ensures
