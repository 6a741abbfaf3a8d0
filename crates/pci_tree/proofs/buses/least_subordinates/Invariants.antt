use Rattle.std.proofs.Common.{◌≡◌, length, take}
use Rattle.pci_tree.specs.BusNumbers.{AreLeastEnds}
use Rattle.pci_tree.proofs.buses.least_subordinates.Given as goal

abbrev pub invariant-loop-function : goal.invariant-loop-function
invariant-loop-function l = record { size : length l.table ≡ 256; filled : AreLeastEnds (take l.function-index l.records) l.table }
