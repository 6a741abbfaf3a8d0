use Rattle.std.proofs.Common.{length, map, ◌+◌, ◌-◌, ◌≤◌}
use Rattle.pci_function.specs.Fault.{fault_of}
use Rattle.pci_faults.proofs.Merging.{IsMergingFrom}
use Rattle.pci_faults.proofs.slots.slot_faults.Given as goal

abbrev pub invariant-loop-i : goal.invariant-loop-i
invariant-loop-i g l = record {
  within_dump : l.i ≤ length l.dump;
  within_probe : l.j ≤ length l.probe;
  merging : IsMergingFrom l.dump l.probe l.i l.j (map fault_of l.found.items);
}

abbrev pub decreases-loop-i : goal.decreases-loop-i
decreases-loop-i g l = (length l.dump - l.i) + (length l.probe - l.j)
