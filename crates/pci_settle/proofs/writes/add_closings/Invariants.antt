use Rattle.std.proofs.Common.{◌≡◌, ◌++◌, ◌-◌, length, map, drop}
use Rattle.pci_spec.specs.System.{System}
use Rattle.settle_spec.specs.Lists.{Request}
use Rattle.settle_spec.specs.Kept.{Kept}
use Rattle.settle_spec.specs.Keeping.Writes.{closings}
use Rattle.pci_plan.specs.Writes.{write_value}
use Rattle.pci_settle.specs.Stages.{AreStages}
use Rattle.pci_settle.proofs.writes.add_closings.Given as goal

abbrev pub invariant-loop-done : goal.invariant-loop-done
invariant-loop-done g l =
    (q : Request) (s : System) (keep : Kept) → AreStages q s keep l.stages
    → map write_value l.writes.items ≡ map write_value l.initial.writes.items ++ closings q s keep (drop (length s - l.done) s)
