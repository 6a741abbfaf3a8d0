use Rattle.std.proofs.Common.{◌≡◌, ◌++◌, map, take}
use Rattle.std.specs.List.{flat_map}
use Rattle.pci_spec.specs.System.{System}
use Rattle.settle_spec.specs.Lists.{Request}
use Rattle.settle_spec.specs.Kept.{Kept}
use Rattle.settle_spec.specs.Keeping.Writes.{opening_from}
use Rattle.pci_plan.specs.Writes.{write_value}
use Rattle.pci_settle.specs.Stages.{AreStages}
use Rattle.pci_settle.proofs.writes.add_openings.Given as goal

abbrev pub invariant-loop-k : goal.invariant-loop-k
invariant-loop-k g l =
    (q : Request) (s : System) (keep : Kept) → AreStages q s keep l.stages
    → map write_value l.writes.items ≡ map write_value l.initial.writes.items ++ flat_map (opening_from q s keep) (take l.k s)
