use Rattle.std.proofs.Common.{◌≡◌, ◌+◌, drop}
use Rattle.std.specs.List.{prefix_len}
use Rattle.pci_json.specs.Lines.{is_blank}
use Rattle.pci_json.proofs.lines.indent.Given as goal

abbrev pub invariant-loop-byte : goal.invariant-loop-byte
invariant-loop-byte l = record {
  counted : l.blanks ≡ l.byte-index;
  left : l.blanks + prefix_len is_blank (drop l.byte-index l.byte-items) ≡ prefix_len is_blank l.byte-items;
}
