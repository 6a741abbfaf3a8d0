use Rattle.std.proofs.Common.{◌<◌, ◌≤◌, arith, subst}
use Rattle.pci_check.specs.Sweep.{ReachesAddress}
use Rattle.pci_check.proofs.sweep.least_met.Goals.{then-region-most, else-region-most}
use Rattle.pci_check.proofs.sweep.least_met.Goals as goal

pub returns-in-None : goal.returns-in-None
returns-in-None c a h r cov = c.in-None.ensures a h.0 cov

pub returns-else-a-last : goal.returns-else-a-last
returns-else-a-last c a h r cov =
    let m : a ≤ c.in-Some.most = subst (λ o. ReachesAddress o a) c.in-Some.is r in
    let low : a < c.in-Some-least_from.a = elim c.if-region-most.branch [ then-region-most w ↦ omega arith | else-region-most w ↦ omega arith ] in
    c.in-Some-least_from.ensures.least a h.0 low cov
