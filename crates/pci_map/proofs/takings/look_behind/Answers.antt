use Rattle.std.proofs.Common.{List, subst, sym}
use Rattle.pci_base.specs.Space.{space_of}
use Rattle.pci_claims.specs.Values.{code_given_value, told_value}
use Rattle.pci_map.specs.declared.seat.Seat.{Seat}
use Rattle.pci_map.specs.Seats.{AreSeatsOn, AreFilteredSeats, seat_first}
use Rattle.pci_map.specs.Takers.{IsTakenFirst}
use Rattle.pci_map.proofs.TakingLines.{taken_is}
use Rattle.pci_map.proofs.takings.look_behind.Goals as goal

pub returns-clause-taken : goal.returns-clause-taken
returns-clause-taken g c = λ s of above.
    let mapped = c.args.walk.now.mapped.now in
    let told = told_value mapped.told in
    let given = code_given_value mapped.given in
    let t = mapped.outline.now in
    let space = space_of c.args.walk.now.space in
    let b = above.bridge.b in
    let all : List Seat = c.in_ok-all.all.items in
    let taken : List Seat = c.in_ok-taken.taken.items in
    let sorted = c.in_ok-all.ensures s of.is.tree in
    let kept : AreFilteredSeats (λ q. IsTakenFirst given space b (seat_first q)) space all taken =
    subst (λ (xs : List Seat). AreFilteredSeats (λ q. IsTakenFirst given space b (seat_first q)) space xs taken) c.as_slice.ensures.value
    (c.in_ok-taken.ensures told given t s c.args.bus of.is.sent.tree of.is.is_told (subst (AreSeatsOn told s c.args.bus space) (sym c.as_slice.ensures.value) sorted.each) above) in
    taken_is told given t.roots s space b c.args.bus all taken c.in_ok-regions.regions.items sorted kept
    (c.in_ok-regions.ensures told given t s of.is.sent of.is.is_told (λ q has. sorted.each q (kept.each q has)))
