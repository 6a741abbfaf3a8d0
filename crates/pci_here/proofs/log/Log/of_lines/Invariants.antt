use Rattle.std.proofs.Common.{◌≡◌, take}
use Rattle.pci_here.specs.Log.{log_of, registers_told}
use Rattle.pci_here.specs.Place.{FunctionPlace}
use Rattle.pci_here.proofs.log.Log.of_lines.Given as goal

abbrev pub invariant-loop-line : goal.invariant-loop-line
invariant-loop-line l = (p : FunctionPlace) → log_of l.log p ≡ registers_told (take l.line-index l.lines) p
