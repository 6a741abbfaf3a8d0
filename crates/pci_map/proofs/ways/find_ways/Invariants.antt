use Rattle.std.proofs.Common.{◌≡◌, length}
use Rattle.pci_spec.specs.System.{System}
use Rattle.pci_claims.specs.Values.{code_given_value}
use Rattle.pci_map.specs.Left.{IsTreeOf}
use Rattle.pci_map.specs.Ways.{AreWays}
use Rattle.pci_map.proofs.ways.find_ways.Given as goal

abbrev pub invariant-loop-bus : goal.invariant-loop-bus
invariant-loop-bus g l = record {
  size : length l.ways.items ≡ l.bus;
  ways : (s : System) → IsTreeOf l.outline s → AreWays (code_given_value l.given) l.outline.roots s l.ways.items;
}
