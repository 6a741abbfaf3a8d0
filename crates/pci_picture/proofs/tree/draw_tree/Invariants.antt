use Rattle.std.proofs.Common.{[]}
use Rattle.std.specs.String.{string_bytes}
use Rattle.pci_picture.specs.Canvases.{AddsToCanvas}
use Rattle.pci_picture.specs.Roots.{listed_functions}
use Rattle.pci_picture.proofs.RootRows.{IsTreeUpTo}
use Rattle.pci_picture.proofs.tree.draw_tree.Given as goal

abbrev pub invariant-loop-bus : goal.invariant-loop-bus
invariant-loop-bus g l = record {
  adds : AddsToCanvas [] l.initial.canvas l.canvas;
  tree : IsTreeUpTo (listed_functions l.board.functions.items) l.board.faults.badges.items l.top l.bus l.drawn l.y
      (string_bytes l.initial.canvas.words) (string_bytes l.canvas.words);
}
