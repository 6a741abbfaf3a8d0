use Rattle.std.proofs.Common.{take}
use Rattle.pci_spec.specs.System.{System}
use Rattle.judge_spec.specs.Given.{Given}
use Rattle.pci_base.specs.Space.{space_of}
use Rattle.pci_tree.specs.Outline.{Tree}
use Rattle.judge_spec.specs.ToldClaims.{Told}
use Rattle.pci_map.specs.Seats.{IsToldOfListedSlots, AreSeatsOn}
use Rattle.pci_map.specs.Above.{AreSentAbove, AreInPlace}
use Rattle.pci_map.proofs.above.in_place.Given as goal

abbrev pub invariant-loop-seat : goal.invariant-loop-seat
invariant-loop-seat g l =
    (told : Told) (given : Given) (t : Tree) (s : System) → AreSentAbove given t s l.above → IsToldOfListedSlots told s → AreSeatsOn told s l.bus (space_of l.space) l.fn.seats.items
    → AreInPlace told given t.roots s (space_of l.space) (take l.seat-index l.fn.seats.items) l.out.items
