use Rattle.std.proofs.Common.{take}
use Rattle.std.specs.List.{All}
use Rattle.pci_tree.specs.Roots.{buses_of}
use Rattle.pci_tree.specs.BusNumbers.{IsInPlace}
use Rattle.pci_tree.proofs.buses.first_place_fault.Given as goal

abbrev pub invariant-loop-function : goal.invariant-loop-function
invariant-loop-function l = All (IsInPlace (buses_of l.roots) l.records) (take l.function-index l.records)
