use Rattle.std.proofs.Common.{◌≡◌, ◌+◌, ◌≤◌, ◌++◌, length, drop}
use Rattle.pci_model_settle.specs.ClaimLines.{merged_by_key}
use Rattle.pci_model_settle.specs.LineValues.{key_of}
use Rattle.pci_model_settle.proofs.claim_lines.merged.Given as goal

abbrev pub invariant-loop : goal.invariant-loop
invariant-loop g l = record {
  count : l.i + l.j ≡ l.counter;
  low : l.i ≤ length l.first;
  high : l.j ≤ length l.second;
  same : l.out.items ++ merged_by_key key_of (drop l.i l.first) (drop l.j l.second) ≡ merged_by_key key_of l.first l.second;
}
