use Rattle.std.proofs.Common.{◌≡◌, drop}
use Rattle.pci_json.specs.Lines.{next_value}
use Rattle.std.specs.Prelude.{fold}
use Rattle.pci_json.proofs.lines.value.Given as goal

abbrev pub invariant-loop-byte : goal.invariant-loop-byte
invariant-loop-byte l = fold (next_value l.base) l.value (drop l.byte-index l.byte-items) ≡ fold (next_value l.base) 0 l.byte-items
