use Rattle.std.proofs.Common.{arith}
use Rattle.pci_tree.proofs.RangeLists.{from_next}
use Rattle.pci_tree.proofs.ranges.least_from.Goals as goal

pub returns-else-s-from : goal.returns-else-s-from
returns-else-s-from c = from_next _ c.first_not_before-k.result _ _ c.requires (omega arith) (omega arith) c.first_not_before-k.ensures.before
