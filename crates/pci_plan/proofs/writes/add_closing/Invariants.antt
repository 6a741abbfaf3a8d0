use Rattle.std.proofs.Common.{◌≡◌, ◌++◌, ◌-◌, length, map, drop}
use Rattle.plan_spec.specs.Planning.PlanWrites.{closing_writes}
use Rattle.pci_plan.specs.Writes.{write_value, block_changes}
use Rattle.pci_plan.proofs.writes.add_closing.Given as goal

abbrev pub invariant-loop-done : goal.invariant-loop-done
invariant-loop-done g l =
    map write_value l.writes.items
    ≡ map write_value l.initial.writes.items ++ closing_writes (block_changes (drop (length l.start - l.done) l.start) (drop (length l.start - l.done) l.start))
