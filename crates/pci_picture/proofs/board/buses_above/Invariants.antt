use Rattle.std.proofs.Common.{◌≡◌, length, take}
use Rattle.pci_picture.specs.Roots.{AreBridges, listed_functions}
use Rattle.pci_picture.proofs.board.buses_above.Given as goal

abbrev pub invariant-loop-function : goal.invariant-loop-function
invariant-loop-function l = record {
  size : length l.above ≡ 256;
  filled : AreBridges (listed_functions (take l.function-index l.functions)) l.above;
}
