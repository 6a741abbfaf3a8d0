use Rattle.std.proofs.Common.{take}
use Rattle.std.specs.List.{AllZip}
use Rattle.pci_place.specs.Above.{system_in}
use Rattle.pci_place.specs.Pools.{pools_value}
use Rattle.pci_plan.specs.Numbered.{IsNewHeader}
use Rattle.pci_plan.proofs.numbered.number_all.Given as goal

abbrev pub invariant-loop-i : goal.invariant-loop-i
invariant-loop-i g l =
    AllZip (IsNewHeader l.admitted.roots (system_in l.admitted) (pools_value l.pools)) (take l.i (system_in l.admitted)) l.headers.items
