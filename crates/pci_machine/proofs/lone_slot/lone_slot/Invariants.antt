use Rattle.std.proofs.Common.{◌≡◌, ◌≤◌, take, length}
use Rattle.pci_spec.specs.Text.{slots_of}
use Rattle.pci_spec.specs.SizesText.{sized_slots}
use Rattle.pci_machine.proofs.lone_slot.lone_slot.Given as goal

abbrev pub invariant-loop-i : goal.invariant-loop-i
invariant-loop-i l = record {
  same : take l.i (slots_of l.dump) ≡ take l.i (sized_slots l.sizes);
  within : l.i ≤ length l.sizes;
}
