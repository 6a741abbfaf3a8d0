use Rattle.pci_check.proofs.Sweeps.{no_first, no_second, two_are_least}
use Rattle.pci_check.proofs.sweep.two_least.Goals as goal

pub returns-in-None : goal.returns-in-None
returns-in-None c distinct = no_first _ _ c.in-None.ensures

pub returns-in-None-least_claimant : goal.returns-in-None-least_claimant
returns-in-None-least_claimant c distinct = no_second _ _ c.in-Some.first distinct c.in-Some.ensures c.in-None-least_claimant.ensures

pub returns-in-Some-least_claimant : goal.returns-in-Some-least_claimant
returns-in-Some-least_claimant c = two_are_least _ _ c.in-Some.first c.in-Some-least_claimant.second c.in-Some.ensures c.in-Some-least_claimant.ensures
