use Rattle.std.proofs.Common.{◌≡◌, ◌≤◌, length}
use Rattle.pci_picture.specs.Seats.{AreWidthsOfSeats, HaveSeatColumns}
use Rattle.pci_picture.proofs.SideBySide.{StandAllBetween}
use Rattle.pci_picture.proofs.lanes.widths_of.Given as goal

abbrev pub invariant-loop-seat : goal.invariant-loop-seat
invariant-loop-seat g l = record {
  count : length l.widths.items ≡ l.seat-index;
  placed : AreWidthsOfSeats l.fn.whole l.seats l.lanes l.widths.items l.seat-index;
  columns : HaveSeatColumns l.seats l.fn.column l.widths.items l.seat-index;
  inside : l.fn.whole.left ≤ l.fn.whole.inner → l.fn.whole.inner ≤ l.fn.whole.right → StandAllBetween l.fn.whole.left l.fn.whole.right l.widths.items;
}
