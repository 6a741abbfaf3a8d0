use Rattle.std.proofs.Common.{◌≡◌, ◌*◌, ◌+◌, ◌<◌, ℕ, length, slice_index}
use Rattle.std.specs.Prelude.{◌/◌, ◌%◌}
use Rattle.pci_spec.specs.Text.{hex_digit}
use Rattle.pci_dump.proofs.block_text.row_line.Given as goal

abbrev pub invariant-loop-i : goal.invariant-loop-i
invariant-loop-i l = record {
  long : length l.line ≡ 52;
  first : slice_index l.line 0 ≡ hex_digit l.row;
  second : slice_index l.line 1 ≡ 48;
  third : slice_index l.line 2 ≡ 58;
  last : slice_index l.line 51 ≡ 10;
  spaces : (k : ℕ) → k < 16 → slice_index l.line (3 * k + 3) ≡ 32;
  high : (k : ℕ) → k < l.i → slice_index l.line (3 * k + 4) ≡ hex_digit (slice_index l.values k / 16);
  low : (k : ℕ) → k < l.i → slice_index l.line (3 * k + 5) ≡ hex_digit (slice_index l.values k % 16);
}
