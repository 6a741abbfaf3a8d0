use Rattle.std.proofs.Common.{◌≡◌, ◌++◌, map, take}
use Rattle.std.specs.List.{flat_map}
use Rattle.plan_spec.specs.Planning.PlanWrites.{register_write}
use Rattle.pci_plan.specs.Writes.{write_value}
use Rattle.pci_settle.specs.Stages.{pair_of, images_change}
use Rattle.pci_settle.proofs.writes.add_changes.Given as goal

abbrev pub invariant-loop-span : goal.invariant-loop-span
invariant-loop-span g l =
    map write_value l.writes.items
    ≡ map write_value l.initial.writes.items ++ flat_map (register_write (images_change l.slot l.old.0 l.new.0)) (map pair_of (take l.span-index l.spans))
