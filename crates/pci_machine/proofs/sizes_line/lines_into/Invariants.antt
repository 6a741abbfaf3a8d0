use Rattle.std.proofs.Common.{◌≡◌, length}
use Rattle.pci_machine.proofs.SizesLines.{AreRead}
use Rattle.pci_machine.proofs.sizes_line.lines_into.Given as goal

abbrev pub invariant-loop-n : goal.invariant-loop-n
invariant-loop-n l = record { seven : length l.lines ≡ 7; read : AreRead l.text l.lines l.n }
