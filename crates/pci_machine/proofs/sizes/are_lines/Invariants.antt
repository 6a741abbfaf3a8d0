use Rattle.std.proofs.Common.{take}
use Rattle.std.specs.List.{All}
use Rattle.pci_spec.specs.SizesText.{IsResourceLine}
use Rattle.pci_machine.proofs.sizes.are_lines.Given as goal

abbrev pub invariant-loop-line : goal.invariant-loop-line
invariant-loop-line l = All IsResourceLine (take l.line-index l.lines)
