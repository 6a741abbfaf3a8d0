use Rattle.std.proofs.Common.{◌≡◌, List, [], subst, sym, ap, ◌∙◌}
use Rattle.std.specs.Prelude.{MatchBool}
use Rattle.std.specs.List.{Contains}
use Rattle.std.proofs.lemmas.List.{take_all}
use Rattle.std.proofs.lemmas.List.Elements.{Contains-get_or}
use Rattle.pci_spec.specs.System.{IsAddress}
use Rattle.pci_base.specs.Space.{space_of}
use Rattle.pci_map.specs.declared.seat.Seat.{Seat}
use Rattle.pci_map.specs.Seats.{AreFilteredSeats, seat_first}
use Rattle.pci_map.specs.Takers.{IsTakenFirst}
use Rattle.pci_map.proofs.Keeping.{none_kept, one_kept, one_dropped}
use Rattle.pci_map.proofs.Values.{seat_address}
use Rattle.pci_map.proofs.takings.taken_first.Goals as goal
use Rattle.pci_map.proofs.takings.taken_first.Goals.{then-is_taken_first+in_ok-add_seat, else-is_taken_first}

pub loop-seat-init : goal.loop-seat-init
loop-seat-init g c = λ told given t s bus tree is_told on above.
    let space = space_of c.args.space in
    subst (λ (xs : List Seat). AreFilteredSeats (λ q. IsTakenFirst given space above.bridge.b (seat_first q)) space [] xs) (sym c.in-Ok.ensures.items)
    (none_kept (λ q. IsTakenFirst given space above.bridge.b (seat_first q)) space)

pub loop-seat-preserved : goal.loop-seat-preserved
loop-seat-preserved g c = λ told given t s bus tree is_told on above.
    let space = space_of c.args.space in
    let qs : List Seat = c.args.seats.now in
    let k = c.loop-seat.seat-index in
    let q : Seat = c.seat-item.result in
    let b = above.bridge.b in
    let listed : Contains qs q = subst (Contains qs) (sym c.seat-item.is) (Contains-get_or qs k q c.loop-seat-test.true) in
    let start : c.first.result ≡ seat_first q = c.first.ensures in
    let address : IsAddress space c.first.result = subst (IsAddress space) (sym start) (seat_address told s bus space q is_told.lawful (on q listed)) in
    let answer = subst (λ n. MatchBool c.is_taken_first.result (IsTakenFirst given space b n) (IsTakenFirst given space b n → ⊥)) start (c.is_taken_first.ensures given t s bus tree above address) in
    let was = c.loop-seat.invariant told given t s bus tree is_told on above in elim c.if-is_taken_first.branch [
      | then-is_taken_first+in_ok-add_seat w ↦ one_kept (λ q. IsTakenFirst given space b (seat_first q)) space qs k q c.loop-seat-test.true c.seat-item.is c.loop-seat.out.items c.if-is_taken_first.out.items
          (ap (λ v. v.items) w.out-is ∙ w.in_ok-add_seat.ensures)
          (subst (λ t. MatchBool t (IsTakenFirst given space b (seat_first q)) (IsTakenFirst given space b (seat_first q) → ⊥)) w.if-is_taken_first.true answer) was
      | else-is_taken_first w ↦ one_dropped (λ q. IsTakenFirst given space b (seat_first q)) space qs k q c.loop-seat-test.true c.seat-item.is c.loop-seat.out.items c.if-is_taken_first.out.items
          (ap (λ v. v.items) w.out-is)
          (subst (λ t. MatchBool t (IsTakenFirst given space b (seat_first q)) (IsTakenFirst given space b (seat_first q) → ⊥)) w.if-is_taken_first.false answer) was
    ]

pub returns : goal.returns
returns g c = λ told given t s bus tree is_told on above.
    let space = space_of c.args.space in
    subst (λ (xs : List Seat). AreFilteredSeats (λ q. IsTakenFirst given space above.bridge.b (seat_first q)) space xs c.loop-seat.out.items) (take_all c.loop-seat.seat-index c.args.seats.now c.loop-seat-test.false)
    (c.loop-seat.invariant told given t s bus tree is_told on above)
