use Rattle.std.proofs.Common.{◌≡◌, ◌≤◌, ◌+◌, ◌-◌, ◌*◌, [], Some, take}
use Rattle.pci_picture.specs.Canvases.{AddsToCanvas, WritesBytes}
use Rattle.pci_picture.specs.FaultLines.{lines_of_reason, list_text}
use Rattle.pci_picture.specs.Said.{lines_of_fault}
use Rattle.pci_picture.proofs.fault_list.write_fault.Given as goal

abbrev pub invariant-loop-place : goal.invariant-loop-place
invariant-loop-place g l = record {
  adds : AddsToCanvas [] l.initial.canvas l.canvas;
  below : l.y ≡ l.above + 14 * (l.place - l.fault.begin);
  within : l.place - l.fault.begin ≤ l.fault.end - l.fault.begin;
  writes : WritesBytes (list_text l.above (take (l.place - l.fault.begin) (lines_of_reason (lines_of_fault l.board.faults (Some l.fault))))) l.initial.canvas l.canvas;
}
