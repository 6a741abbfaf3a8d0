use Rattle.std.proofs.Common.{◌≡◌, length, take}
use Rattle.pci_tree.proofs.RootLists.{AreFlagsOf}
use Rattle.pci_tree.proofs.roots.Roots.of.Given as goal

abbrev pub invariant-loop-bus : goal.invariant-loop-bus
invariant-loop-bus l = record {
  size : length l.flags ≡ 256;
  marked : AreFlagsOf (take l.bus-index l.buses) l.flags;
}
