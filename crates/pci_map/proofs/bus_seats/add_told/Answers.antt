use Rattle.std.proofs.Common.{◌≡◌, ◌+◌, ap, ◌∙◌, subst, sym, refl, arith, Some}
use Rattle.std.specs.List.{slice_get}
use Rattle.std.proofs.lemmas.Bool.{both_ways, iff_false}
use Rattle.std.proofs.lemmas.Option.{slice_get-get_or}
use Rattle.pci_base.specs.Space.{space_of}
use Rattle.pci_map.proofs.Asciis.{told_facts}
use Rattle.pci_map.specs.BusSeats.{AreToldSeats, AreMoreSeats}
use Rattle.pci_map.proofs.BusSeating.{seat_more, seat_less}
use Rattle.pci_map.proofs.bus_seats.add_told.Goals.{then-on-i+then-is_in+in_ok-add_seat, else-on-i, else-on-i-via-then-on-i+else-is_in, else-on-i-via-else-on-i}
use Rattle.pci_map.proofs.bus_seats.add_told.Goals as goal

pub invariant_of-add_seat : goal.invariant_of-add_seat
invariant_of-add_seat g c =
    let ranges = c.args.ranges.now in
    let inside = c.loop-i-test.true in
    let high = c.requires.high in
    let room = c.requires.told.room in
    let r = c.index-ranges-i.result in
    let at : slice_get ranges c.loop-i.i ≡ Some r = slice_get-get_or ranges c.loop-i.i r (omega (arith, inside, high)) ∙ ap Some (sym c.index-ranges-i.is) in
    let facts = told_facts ranges c.requires.told c.loop-i.i r at in
    record { behind_registers = omega arith; below_limit = omega (arith, inside, high, room); is_forward = facts.0; name_is_ascii = facts.1 }

pub loop-i-preserved : goal.loop-i-preserved
loop-i-preserved g c =
    let ranges = c.args.ranges.now in
    let on = c.args.on.now in
    let space = space_of c.args.space in
    let from = c.loop-i.invariant.from in
    let inside = c.loop-i-test.true in
    let high = c.requires.high in
    let r = c.index-ranges-i.result in
    let at : slice_get ranges c.loop-i.i ≡ Some r = slice_get-get_or ranges c.loop-i.i r (omega (arith, inside, high)) ∙ ap Some (sym c.index-ranges-i.is) in
    record {
      from = omega (arith, from);
      made = elim c.if-on-i.branch [
        | then-on-i+then-is_in+in_ok-add_seat w ↦
            seat_more ranges on c.args.stretch.first space c.loop-i.i r from at c.args.seats.now.items c.loop-i.seats.items
            c.loop-i.invariant.made _ c.if-on-i.seats.items w.if-on-i.true (w.is_in.ensures.0 w.if-is_in.true)
            (record { x = _; is = refl; told = refl; register = refl })
            (ap (λ v. v.items) w.seats-is ∙ w.in_ok-add_seat.ensures)
        | else-on-i w ↦
            subst (AreMoreSeats (AreToldSeats ranges on c.args.stretch.first (c.loop-i.i + 1) space) c.args.seats.now.items) (sym (ap (λ v. v.items) w.seats-is))
            (seat_less ranges on c.args.stretch.first space c.loop-i.i r from at c.args.seats.now.items c.loop-i.seats.items
            c.loop-i.invariant.made (λ is. elim w.else-on-i.branch [
              | else-on-i-via-then-on-i+else-is_in v ↦ iff_false v.is_in.ensures v.if-is_in.false is.space
              | else-on-i-via-else-on-i v ↦ both_ways _ v.if-on-i.false is.on
            ]))
      ];
    }
