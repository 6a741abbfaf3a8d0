use Rattle.std.proofs.Common.{arith}
use Rattle.pci_tree.proofs.RangeLists.{outside_before, outside_after}
use Rattle.pci_tree.proofs.ranges.least_outside.Goals as goal

pub returns-then-r-s : goal.returns-then-r-s
returns-then-r-s c = outside_before _ _ c.first_not_before-k.result _ c.requires.canonical c.requires.lawful (omega arith) c.if-r-s.true c.first_not_before-k.ensures.before

pub returns-else-r-s-2 : goal.returns-else-r-s-2
returns-else-r-s-2 c =
    outside_after _ _ c.first_not_before-k.result _ c.requires.canonical (omega arith) c.if-r-s.false (c.first_not_before-k.ensures.after _ _ (omega arith) (omega arith)) (omega arith)
