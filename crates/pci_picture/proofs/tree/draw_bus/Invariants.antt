use Rattle.std.proofs.Common.{◌≡◌, ℕ, [], List, length, reverse}
use Rattle.std.specs.String.{string_bytes}
use Rattle.pci_picture.specs.Canvases.{AddsToCanvas}
use Rattle.pci_picture.specs.Walks.{AreMarked}
use Rattle.pci_picture.proofs.Trees.{IsUnderWay, work_left}
use Rattle.pci_picture.proofs.tree.draw_bus.Given as goal

abbrev pub invariant-loop-rest : goal.invariant-loop-rest
invariant-loop-rest g l = record {
  adds : AddsToCanvas [] l.initial.canvas l.canvas;
  size : length l.drawn ≡ 256;
  way : (before : List ℕ) → AreMarked l.fn.drawn before
      → IsUnderWay l.board.functions.items l.board.faults.badges.items before l.root l.top (reverse l.rests.items) l.drawn l.y
      (string_bytes l.fn.canvas.words) (string_bytes l.canvas.words);
}

abbrev pub decreases-loop-rest : goal.decreases-loop-rest
decreases-loop-rest g l = work_left l.board.functions.items l.rests.items l.drawn
