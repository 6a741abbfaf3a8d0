use Rattle.std.proofs.Common.{◌≡◌, ℕ, ◌<◌, List, length, get_or}
use Rattle.pci_base.specs.declared.range.Range.{Range}
use Rattle.pci_base.specs.WindowKinds.{kind_value}
use Rattle.pci_tree.specs.Roots.{buses_of}
use Rattle.pci_tree.specs.Reaches.{IsReachOf}
use Rattle.pci_tree.proofs.reach.reaches.Given as goal

abbrev pub invariant-loop-bus : goal.invariant-loop-bus
invariant-loop-bus g l = record {
  size : length l.out.items ≡ l.bus;
  exact : (k : ℕ) (d : List Range) → k < l.bus → IsReachOf l.records (buses_of l.roots) (kind_value l.kind) k (get_or l.out.items k d);
}
