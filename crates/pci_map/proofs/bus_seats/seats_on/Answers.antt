use Rattle.std.proofs.Common.{List, ◌≡◌, ◌++◌, map, subst, sym, ◌∙◌, ap}
use Rattle.std.specs.List.Sorted.{IsPermutation}
use Rattle.std.proofs.lemmas.Bool.{eqb-true}
use Rattle.pci_base.specs.Space.{space_of}
use Rattle.pci_claims.specs.Values.{told_value}
use Rattle.pci_map.specs.declared.seat.Seat.{Seat}
use Rattle.pci_map.specs.declared.seat.Seat.TheVariants.{Own}
use Rattle.pci_map.proofs.BusSeating.{sorted_seats, seats_without}
use Rattle.pci_map.proofs.bus_seats.seats_on.Goals as goal

pub returns-then-is_empty : goal.returns-then-is_empty
returns-then-is_empty g c s tree =
    let mapped = c.args.mapped.now in
    let own : c.in_ok-seats.seats.items ≡ map Own c.in_ok-regions.regions.items = c.in_ok-seats.ensures ∙ ap (map Own) c.deref.ensures.value in
    seats_without (told_value mapped.told) mapped.outline.now mapped.on.now c.requires.each_on c.requires.lawful s tree c.args.bus (space_of c.args.space)
    c.ranges_of-stretch.result c.ranges_of-stretch.ensures c.in_ok-regions.regions.items (c.in_ok-regions.ensures s tree.records)
    (eqb-true c.ranges_of-stretch.result.first c.ranges_of-stretch.result.end (sym c.is_empty.ensures ∙ c.if-is_empty.true)) c.in_ok-seats.seats.items own

pub returns : goal.returns
returns g c s tree =
    let mapped = c.args.mapped.now in
    let own : c.in_ok-seats.seats.items ≡ map Own c.in_ok-regions.regions.items = c.in_ok-seats.ensures ∙ ap (map Own) c.deref.ensures.value in
    let added = c.in_ok-add_told.ensures in
    sorted_seats (told_value mapped.told) mapped.outline.now mapped.on.now c.requires.each_on c.requires.lawful s tree c.args.bus (space_of c.args.space)
    c.ranges_of-stretch.result c.ranges_of-stretch.ensures c.in_ok-regions.regions.items (c.in_ok-regions.ensures s tree.records)
    added.more added.made c.sort.new.seats.items
    (subst (λ (l : List Seat). IsPermutation l c.sort.new.seats.items) (added.appended ∙ ap (λ l. l ++ added.more) own) c.in_ok-sort.ensures.permutation) c.in_ok-sort.ensures.sorted
