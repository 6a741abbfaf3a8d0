use Rattle.std.proofs.Common.{◌≤◌, ◌-◌, length}
use Rattle.pci_picture.specs.Canvases.{AddsSome}
use Rattle.pci_picture.specs.Drawings.{AreGrouped}
use Rattle.pci_picture.specs.BoardLooks.{look_read}
use Rattle.pci_picture.proofs.picture.draw_sections.Given as goal

abbrev pub invariant-loop-begin : goal.invariant-loop-begin
invariant-loop-begin g l = record {
  within : l.begin ≤ length l.members;
  down : l.first.y ≤ l.y;
  adds : AddsSome (AreGrouped (look_read l.board) l.first l.members l.begin l.y) l.initial.canvas l.canvas;
}

abbrev pub decreases-loop-begin : goal.decreases-loop-begin
decreases-loop-begin g l = length l.members - l.begin
