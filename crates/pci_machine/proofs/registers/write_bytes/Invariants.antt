use Rattle.std.proofs.Common.{◌≡◌, ◌<◌, ℕ, length, slice_index}
use Rattle.pci_spec.specs.Slot.{Slot}
use Rattle.pci_spec.specs.Machine.{written_byte}
use Rattle.pci_machine.proofs.registers.write_bytes.Given as goal

abbrev pub invariant-loop-j : goal.invariant-loop-j
invariant-loop-j l = record {
  full : length l.bytes ≡ 256;
  so_far : (slot : Slot) (place : ℕ) → place < 256
      → slice_index l.bytes place
      ≡ written_byte record { slot = slot; image = l.initial.bytes; writable = l.writable; clearing = l.clearing } l.off l.j l.value place;
}
