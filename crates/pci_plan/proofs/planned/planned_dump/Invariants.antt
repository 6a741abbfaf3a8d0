use Rattle.plan_spec.specs.Planning.Numbers.{IsPlannedFunction}
use Rattle.pci_place.specs.Above.{system_in}
use Rattle.pci_place.specs.Pools.{pools_value}
use Rattle.pci_plan.proofs.PlannedDumps.{ArePlanned}
use Rattle.pci_plan.proofs.planned.planned_dump.Given as goal

abbrev pub invariant-loop-i : goal.invariant-loop-i
invariant-loop-i g l =
    ArePlanned (IsPlannedFunction l.admitted.roots (system_in l.admitted) (pools_value l.pools)) l.admitted.dump l.admitted.probe l.i l.dump
