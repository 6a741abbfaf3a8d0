use Rattle.std.proofs.Common.{◌≡◌, ◌<◌, map, take, length, get_or}
use Rattle.pci_spec.specs.System.{System}
use Rattle.pci_spec.specs.Decoded.{HasRecords}
use Rattle.pci_function.specs.Values.{record_value}
use Rattle.pci_map.specs.Above.{IsOnlyRootAbove}
use Rattle.pci_map.proofs.RootsAbove.{AreFilled}
use Rattle.pci_map.proofs.above.roots_above.Given as goal

abbrev pub invariant-loop-function : goal.invariant-loop-function
invariant-loop-function g l = record {
  size : length l.roots_above ≡ 256;
  known : l.last < 256 → (s : System) → HasRecords s l.outline.records → HasRecords s (map record_value l.records) → IsOnlyRootAbove l.outline.roots s l.last (get_or l.roots_above l.last 0);
  filled : (s : System) → HasRecords s l.outline.records → HasRecords s (map record_value l.records) → AreFilled l.outline.roots s (take l.function-index l.records) l.roots_above;
}
