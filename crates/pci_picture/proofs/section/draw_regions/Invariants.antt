use Rattle.std.proofs.Common.{take}
use Rattle.pci_picture.specs.Canvases.{AddsSome}
use Rattle.pci_picture.specs.Drawings.{AreFramed}
use Rattle.pci_picture.specs.BoardLooks.{look_read}
use Rattle.pci_picture.proofs.section.draw_regions.Given as goal

abbrev pub invariant-loop-placed : goal.invariant-loop-placed
invariant-loop-placed g l =
    AddsSome (AreFramed (look_read l.board) (take l.placed-index l.plan.placed.items) l.plan.heights.runs.items l.plan.heights.bottom)
    l.initial.canvas l.canvas
