use Rattle.std.proofs.Common.{◌≤◌, take}
use Rattle.pci_picture.specs.Canvases.{AddsSome}
use Rattle.pci_picture.specs.Drawings.{AreOffBoxes}
use Rattle.pci_picture.specs.BoardLooks.{look_read}
use Rattle.pci_picture.specs.Trees.{down}
use Rattle.pci_picture.proofs.picture.draw_off.Given as goal

abbrev pub invariant-loop-region : goal.invariant-loop-region
invariant-loop-region g l = record {
  lower : l.site.y ≤ l.y;
  rows : AddsSome (AreOffBoxes (look_read l.board) (down l.site.x 132) l.site.width (down l.site.y 22) (take l.region-index l.off) l.y) l.initial.canvas l.canvas;
}
