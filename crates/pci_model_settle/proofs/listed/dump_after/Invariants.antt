use Rattle.std.proofs.Common.{◌≡◌, map, take, drop}
use Rattle.pci_spec.specs.Text.{slots_of}
use Rattle.pci_plan.specs.Writes.{write_value}
use Rattle.pci_model_settle.specs.Listed.{blocks_after}
use Rattle.pci_model_settle.proofs.listed.dump_after.Given as goal

abbrev pub invariant-loop-block : goal.invariant-loop-block
invariant-loop-block g l = l.blocks.items ≡ take l.block-index l.block-items

-- what is left to write makes the whole of it
abbrev pub invariant-loop-write : goal.invariant-loop-write
invariant-loop-write g l = record {
  left : blocks_after l.blocks.items (map write_value (drop l.write-index l.writes)) ≡ blocks_after l.dump (map write_value l.writes);
  slots : slots_of l.blocks.items ≡ slots_of l.dump;
}

abbrev pub invariant-loop-i : goal.invariant-loop-i
invariant-loop-i g l = l.after ≡ take l.i l.blocks.items
