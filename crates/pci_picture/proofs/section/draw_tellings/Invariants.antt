use Rattle.std.proofs.Common.{[]}
use Rattle.pci_picture.specs.Canvases.{AddsToCanvas}
use Rattle.pci_picture.proofs.section.draw_tellings.Given as goal

abbrev pub invariant-loop-range : goal.invariant-loop-range
invariant-loop-range g l = AddsToCanvas [] l.initial.canvas l.canvas

abbrev pub invariant-loop-fit : goal.invariant-loop-fit
invariant-loop-fit g l = AddsToCanvas [] l.initial.canvas l.canvas
