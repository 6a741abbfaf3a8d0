use Rattle.std.proofs.Common.{◌≡◌, ◌*◌, ◌++◌, length, take}
use Rattle.pci_spec.specs.Form.{rows_text}
use Rattle.pci_dump.specs.Value.{AreSmall}
use Rattle.pci_dump.proofs.rows.last_image_into.Given as goal

abbrev pub invariant-loop-row : goal.invariant-loop-row
invariant-loop-row l = record {
  long : length l.image ≡ 256;
  small : AreSmall (take (16 * l.row) l.image);
  so_far : l.bytes ≡ rows_text 0 l.row (take (16 * l.row) l.image) ++ l.rest;
}
