use Rattle.std.proofs.Common.{◌≡◌, ◌+◌, ◌==◌, drop}
use Rattle.std.specs.List.{position_or_len}
use Rattle.pci_json.proofs.lines.place_of.Given as goal

abbrev pub invariant-loop-other : goal.invariant-loop-other
invariant-loop-other l = record {
  counted : l.place ≡ l.other-index;
  left : l.place + position_or_len (λ b. b == l.byte) (drop l.other-index l.other-items) ≡ position_or_len (λ b. b == l.byte) l.other-items;
}
