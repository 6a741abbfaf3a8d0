use Rattle.std.proofs.Common.{take}
use Rattle.pci_tree.specs.BusNumbers.{IsApartFromLower}
use Rattle.pci_tree.proofs.buses.is_apart_from_lower.Given as goal

abbrev pub invariant-loop-function : goal.invariant-loop-function
invariant-loop-function l = IsApartFromLower (take l.function-index l.part) l.slot l.bridge
