use Rattle.std.proofs.Common.{◌≡◌, map, take}
use Rattle.pci_model_settle.specs.ClaimLines.{told_lines}
use Rattle.pci_model_settle.specs.LineValues.{line_value}
use Rattle.pci_model_settle.proofs.claim_lines.told_lines.Given as goal

abbrev pub invariant-loop-range : goal.invariant-loop-range
invariant-loop-range g l = record {
  count : l.number ≡ l.range-index;
  same : map line_value l.out.items ≡ told_lines 1 (take l.range-index l.ranges);
}
