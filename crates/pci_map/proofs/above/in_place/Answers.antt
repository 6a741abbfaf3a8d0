use Rattle.std.proofs.Common.{rules, ◌≡◌, ◌<◌, ◌≤◌, List, [], length, get_or, subst, sym, ◌∙◌, inl, inr, arith, ap}
use Rattle.std.specs.Prelude.{MatchBool}
use Rattle.std.specs.List.{Contains}
use Rattle.std.proofs.lemmas.List.{take_all}
use Rattle.std.proofs.lemmas.List.Elements.{Contains-get_or}
use Rattle.pci_base.specs.Space.{space_of}
use Rattle.pci_map.specs.declared.seat.Seat.{Seat}
use Rattle.pci_map.specs.Seats.{seat_value}
use Rattle.pci_map.specs.Above.{IsSeatOut, AreInPlace}
use Rattle.pci_map.proofs.Keeping.{all_kept, none_kept, one_kept, one_dropped}
use Rattle.pci_map.proofs.Places.{nothing_out}
use Rattle.pci_map.proofs.above.in_place.Goals as goal
use Rattle.pci_map.proofs.above.in_place.Goals.{then-not-is_seat_outside+in_ok-add_seat, else-not-is_seat_outside}

pub loop-seat-init : goal.loop-seat-init
loop-seat-init g c = λ told given t s above is_told on.
    subst (λ (xs : List Seat). AreInPlace told given t.roots s (space_of c.args.space) [] xs) (sym c.in-Ok.ensures.items) (none_kept (λ q. IsSeatOut told given t.roots s (space_of c.args.space) q → ⊥) (space_of c.args.space))

pub loop-seat-preserved : goal.loop-seat-preserved
loop-seat-preserved g c = λ told given t s above is_told on.
    let space = space_of c.args.space in
    let qs : List Seat = c.args.seats.items in
    let k = c.loop-seat.seat-index in
    let q : Seat = c.seat-item.result in
    let same : c.as_slice-seat-items.result.now ≡ qs = c.as_slice-seat-items.ensures.value in
    let within : k < length qs = subst (λ (xs : List Seat). k < length xs) same c.loop-seat-test.true in
    let at : q ≡ get_or qs k q = subst (λ (xs : List Seat). q ≡ get_or xs k q) same c.seat-item.is in
    let listed : Contains qs q = subst (Contains qs) (sym at) (Contains-get_or qs k q within) in
    let answer = c.is_seat_outside.ensures told given t s above is_told (on q listed) in
    let was = c.loop-seat.invariant told given t s above is_told on in elim c.if-not-is_seat_outside.branch [
      | then-not-is_seat_outside+in_ok-add_seat w ↦ one_kept (λ q. IsSeatOut told given t.roots s space q → ⊥) space qs k q within at c.loop-seat.out.items c.if-not-is_seat_outside.out.items
          (ap (λ v. v.items) w.out-is ∙ w.in_ok-add_seat.ensures)
          (subst (λ b. MatchBool b (IsSeatOut told given t.roots s space q) (IsSeatOut told given t.roots s space q → ⊥)) w.if-not-is_seat_outside.true answer) was
      | else-not-is_seat_outside w ↦ one_dropped (λ q. IsSeatOut told given t.roots s space q → ⊥) space qs k q within at c.loop-seat.out.items c.if-not-is_seat_outside.out.items
          (ap (λ v. v.items) w.out-is)
          (λ in_place. in_place (subst (λ b. MatchBool b (IsSeatOut told given t.roots s space q) (IsSeatOut told given t.roots s space q → ⊥)) w.if-not-is_seat_outside.false answer)) was
    ]

pub returns-then-is_empty : goal.returns-then-is_empty
returns-then-is_empty g c = λ told given t s above is_told on.
    let none : length c.args.above.now ≡ 0 = search rules in
    all_kept (λ q. IsSeatOut told given t.roots s (space_of c.args.space) q → ⊥) (space_of c.args.space) c.args.seats.items (λ q has out. elim above.rows [
      | inl nothing ↦ nothing_out told given t s nothing.io nothing.memory (seat_value (space_of c.args.space) q) out
      | inr rows ↦ (let size = rows.size in let no : ⊥ = omega (arith, none, size) in no)
    ])

pub returns : goal.returns
returns g c = λ told given t s above is_told on.
    let qs : List Seat = c.args.seats.items in
    let past : length qs ≤ c.loop-seat.seat-index = subst (λ (xs : List Seat). length xs ≤ c.loop-seat.seat-index) c.as_slice-seat-items.ensures.value c.loop-seat-test.false in
    subst (λ (xs : List Seat). AreInPlace told given t.roots s (space_of c.args.space) xs c.loop-seat.out.items) (take_all c.loop-seat.seat-index qs past) (c.loop-seat.invariant told given t s above is_told on)
