use Rattle.std.proofs.Common.{take}
use Rattle.pci_base.specs.Ranges.{decoded_range_of}
use Rattle.pci_base.specs.Space.{space_of}
use Rattle.pci_grow.specs.OffLines.{rows_beside, IsAmongAlso}
use Rattle.pci_grow.proofs.among.Among.beside_lines.Given as goal

abbrev pub invariant-loop-line : goal.invariant-loop-line
invariant-loop-line l =
    IsAmongAlso (decoded_range_of l.fn.self.window) l.fn.self l.among
    (rows_beside l.told l.fn.slot l.region.level (space_of l.region.space) (decoded_range_of l.fn.self.window) (take l.line-index l.line-items))
