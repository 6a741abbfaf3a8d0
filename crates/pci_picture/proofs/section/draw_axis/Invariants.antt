use Rattle.std.proofs.Common.{[]}
use Rattle.pci_picture.specs.Canvases.{AddsToCanvas, WritesBytes}
use Rattle.pci_picture.proofs.section.draw_axis.Given as goal

abbrev pub invariant-loop-run : goal.invariant-loop-run
invariant-loop-run g l = record {
  adds : AddsToCanvas [] l.initial.canvas l.canvas;
  writes : WritesBytes [] l.initial.canvas l.canvas;
}
