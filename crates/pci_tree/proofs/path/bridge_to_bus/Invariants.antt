use Rattle.std.proofs.Common.{◌≡◌, length}
use Rattle.pci_tree.proofs.Tables.{IsTableBelow}
use Rattle.pci_tree.proofs.path.bridge_to_bus.Given as goal

abbrev pub invariant-loop-place : goal.invariant-loop-place
invariant-loop-place l = record { size : length l.bridge_to_bus ≡ 256; filled : IsTableBelow l.place l.records l.bridge_to_bus }
