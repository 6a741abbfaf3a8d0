use Rattle.std.proofs.Common.{[]}
use Rattle.std.specs.String.{string_bytes}
use Rattle.pci_picture.specs.Canvases.{AddsToCanvas}
use Rattle.pci_picture.proofs.FaultLines.{AreListed}
use Rattle.pci_picture.proofs.fault_list.write_faults.Given as goal

abbrev pub invariant-loop-index : goal.invariant-loop-index
invariant-loop-index g l = record {
  adds : AddsToCanvas [] l.initial.canvas l.canvas;
  listed : AreListed l.board.faults l.index l.room l.y (string_bytes l.initial.canvas.words) (string_bytes l.canvas.words);
}
