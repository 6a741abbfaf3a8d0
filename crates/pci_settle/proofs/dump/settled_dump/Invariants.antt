use Rattle.pci_place.specs.Above.{system_in}
use Rattle.pci_first_fit.specs.Slots.{demand_value}
use Rattle.pci_plan.proofs.PlannedDumps.{ArePlanned}
use Rattle.pci_settle.proofs.SettledDumps.{IsSettledOf}
use Rattle.pci_settle.proofs.dump.settled_dump.Given as goal

abbrev pub invariant-loop-k : goal.invariant-loop-k
invariant-loop-k g l =
    ArePlanned (IsSettledOf l.admitted.roots (system_in l.admitted) (demand_value l.fn.lists) l.tables l.wished) l.admitted.dump l.admitted.probe l.k l.dump
