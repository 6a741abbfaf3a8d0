use Rattle.std.proofs.Common.{◌≡◌, ◌+◌, ◌*◌, ◌++◌}
use Rattle.std.specs.List.{flat_map, range_with_len}
use Rattle.arrayvec.specs.ArrayVec.{array_vec_len}
use Rattle.pci_spec.specs.Text.{byte_line}
use Rattle.pci_dump.proofs.block_text.put_block.Given as goal

abbrev pub invariant-loop-row : goal.invariant-loop-row
invariant-loop-row l = record {
  text : l.text.items ≡ l.initial.text.items ++ flat_map (byte_line l.block.image) (range_with_len 0 l.row);
  len : array_vec_len l.text ≡ array_vec_len l.initial.text + 52 * l.row;
}
