use Rattle.std.proofs.Common.{ℕ, take}
use Rattle.pci_spec.specs.System.{System}
use Rattle.judge_spec.specs.Given.{Given}
use Rattle.judge_spec.specs.ToldClaims.{Told}
use Rattle.pci_base.specs.Space.{space_of}
use Rattle.pci_tree.specs.Outline.{Tree}
use Rattle.pci_map.specs.Seats.{IsToldOfListedSlots, AreSeatsOn, AreFilteredSeats, seat_first}
use Rattle.pci_map.specs.Left.{IsTreeOf}
use Rattle.pci_map.specs.Ways.{AreAbove}
use Rattle.pci_map.specs.Takers.{IsTakenFirst}
use Rattle.pci_map.proofs.takings.taken_first.Given as goal

abbrev pub invariant-loop-seat : goal.invariant-loop-seat
invariant-loop-seat g l =
    (told : Told) (given : Given) (t : Tree) (s : System) (bus : ℕ) → IsTreeOf t s → IsToldOfListedSlots told s → AreSeatsOn told s bus (space_of l.space) l.seats
    → (above : AreAbove given t.roots s bus l.windows)
    → AreFilteredSeats (λ q. IsTakenFirst given (space_of l.space) above.bridge.b (seat_first q)) (space_of l.space) (take l.seat-index l.seats) l.out.items
