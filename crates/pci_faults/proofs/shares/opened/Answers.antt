use Rattle.std.proofs.Common.{arith}
use Rattle.pci_faults.proofs.shares.opened.Goals as goal

pub returns-in_default : goal.returns-in_default
returns-in_default c a from to covered = c.in_default.ensures a from covered

pub returns-else-first-last : goal.returns-else-first-last
returns-else-first-last c a from to covered = c.in-Some.ensures.least a from (let past = c.if-first-last.false in omega (arith, past, to)) covered
