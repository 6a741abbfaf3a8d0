use Rattle.std.proofs.Common.{◌≡◌, ◌++◌, map, take}
use Rattle.std.specs.List.{flat_map}
use Rattle.plan_spec.specs.Planning.PlanWrites.{registers_of, opening_of}
use Rattle.pci_plan.specs.Writes.{write_value, block_changes}
use Rattle.pci_plan.proofs.writes.writes_between.Given as goal

abbrev pub invariant-loop-i : goal.invariant-loop-i
invariant-loop-i g l = map write_value l.writes.items ≡ map write_value l.initial.writes.items ++ flat_map registers_of (take l.i (block_changes l.start l.planned))

abbrev pub invariant-loop-i-2 : goal.invariant-loop-i-2
invariant-loop-i-2 g l = map write_value l.writes.items ≡ map write_value l.initial.writes.items ++ flat_map opening_of (take l.i (block_changes l.start l.planned))
