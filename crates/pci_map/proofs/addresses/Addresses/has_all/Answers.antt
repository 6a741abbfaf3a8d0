use Rattle.std.proofs.Common.{subst}
use Rattle.pci_map.proofs.Sents.{IsAnswer, all_sent}
use Rattle.pci_map.proofs.addresses.Addresses.has_all.Goals as goal

pub returns : goal.returns
returns g c =
    subst (λ rs. IsAnswer rs c.args.range c.is_none.result) c.ranges-2.ensures.value
    (all_sent c.ranges-2.result.now c.args.range c.least_outside.result c.is_none.result c.is_none.ensures c.least_outside.ensures)
