use Rattle.std.proofs.Common.{◌≡◌, map, take}
use Rattle.std.specs.List.{flat_map}
use Rattle.pci_plan.specs.Writes.{write_value}
use Rattle.pci_plan.specs.Steps.{shown_writes}
use Rattle.pci_plan.proofs.start.start_of.Given as goal

abbrev pub invariant-loop-block : goal.invariant-loop-block
invariant-loop-block g l = map write_value l.all.items ≡ flat_map shown_writes (take l.block-index l.blocks)
