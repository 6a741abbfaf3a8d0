use Rattle.std.proofs.Common.{◌≡◌, ◌+◌, length}
use Rattle.std.specs.List.{position_or_len}
use Rattle.pci_picture.specs.Lines.{is_feed}
use Rattle.pci_picture.proofs.reading.line_length.Given as goal

abbrev pub invariant-loop : goal.invariant-loop
invariant-loop l = record {
  place : l.length + position_or_len is_feed l.rest ≡ position_or_len is_feed l.text;
  long : l.length + length l.rest ≡ length l.text;
}
