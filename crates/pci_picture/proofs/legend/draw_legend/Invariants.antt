use Rattle.std.proofs.Common.{◌≡◌, ◌≤◌, ◌+◌, ◌*◌, [], ◌++◌, drop}
use Rattle.std.specs.String.{string_bytes}
use Rattle.pci_picture.specs.Canvases.{AddsToCanvas}
use Rattle.pci_picture.specs.Legends.{last_begins, legend_boxes, legend_text, marks_of_legend}
use Rattle.pci_picture.proofs.legend.draw_legend.Given as goal

abbrev pub invariant-loop-mark : goal.invariant-loop-mark
invariant-loop-mark g l = record {
  adds : AddsToCanvas [] l.initial.canvas l.canvas;
  draws : string_bytes l.canvas.boxes ++ legend_boxes l.y l.x (drop l.mark-index (marks_of_legend l.is_told))
      ≡ string_bytes l.initial.canvas.boxes ++ legend_boxes l.y 16 (marks_of_legend l.is_told);
  low : l.x ≤ 16 + 160 * l.mark-index;
  writes : string_bytes l.canvas.words ++ legend_text l.y l.x (drop l.mark-index (marks_of_legend l.is_told))
      ≡ string_bytes l.initial.canvas.words ++ legend_text l.y 16 (marks_of_legend l.is_told);
  last : last_begins l.last l.x (drop l.mark-index (marks_of_legend l.is_told)) ≡ last_begins 16 16 (marks_of_legend l.is_told);
}
