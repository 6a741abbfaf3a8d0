use Rattle.std.proofs.Common.{◌≡◌, ◌+◌, ◌-◌, ◌*◌, ◌/◌, ◌^◌, ◌++◌}
use Rattle.arrayvec.specs.ArrayVec.{array_vec_len}
use Rattle.pci_spec.specs.Line.{hex_number}
use Rattle.pci_map.proofs.cells.put_bytes.Given as goal

abbrev pub invariant-loop-done : goal.invariant-loop-done
invariant-loop-done l = record {
  text : l.cells.items ≡ l.initial.cells.items ++ hex_number (2 * l.done) (l.number / 256 ^ (l.bytes - l.done));
  len : array_vec_len l.cells ≡ array_vec_len l.initial.cells + 2 * l.done;
}
