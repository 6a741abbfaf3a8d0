use Rattle.std.proofs.Common.{◌≡◌, ◌<◌, ◌≤◌, ◌+◌, ◌/◌, ◌%◌, ◌^◌, ℕ, length, slice_index}
use Rattle.std.specs.Prelude.{◌⊎◌}
use Rattle.pci_base.proofs.image.put.Given as goal

abbrev pub invariant-loop-j : goal.invariant-loop-j
invariant-loop-j l = record {
  full : length l.bytes ≡ 256;
  inside : (k : ℕ) → k < l.j → slice_index l.bytes (l.off + k) ≡ l.value / 256 ^ k % 256;
  outside : (place : ℕ) → (place < l.off) ⊎ (l.off + l.j ≤ place) → slice_index l.bytes place ≡ slice_index l.initial.bytes place;
}
