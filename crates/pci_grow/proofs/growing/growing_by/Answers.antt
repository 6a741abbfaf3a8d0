use Rattle.std.proofs.Common.{length, arith, ap, sym, subst, ◌∙◌}
use Rattle.std.specs.List.{All}
use Rattle.std.specs.List.Sorted.{IsNonDecreasingBy}
use Rattle.std.proofs.lemmas.List.Sorted.{IsPermutation-refl}
use Rattle.settle_spec.specs.Items.{has_room_behind}
use Rattle.settle_spec.specs.Growth.{takes_growth, has_grown}
use Rattle.settle_spec.specs.Kept.{is_kept}
use Rattle.pci_place.specs.Above.{system_in}
use Rattle.pci_place.proofs.Records.{lent, same_count}
use Rattle.pci_first_fit.specs.Buses.{classing_value}
use Rattle.pci_first_fit.specs.Lines.{AreLineRows}
use Rattle.pci_first_fit.specs.Lists.{lists_value}
use Rattle.pci_kept.specs.Known.{AreParts}
use Rattle.pci_kept.specs.Passing.{CanBeNoted, AreStanding}
use Rattle.pci_kept.proofs.Whole.{ready, slice_back}
use Rattle.pci_kept.specs.Rooms.{region_bus}
use Rattle.pci_kept.specs.Staying.{AreStayingBy}
use Rattle.pci_kept.proofs.Stays.{room_stands, buses_rise}
use Rattle.pci_grow.specs.Growing.{AreComing}
use Rattle.pci_grow.specs.Reaching.{reaching_value}
use Rattle.pci_grow.specs.Rows.{region_row_number}
use Rattle.pci_grow.specs.There.{tables_of}
use Rattle.pci_grow.proofs.Growable.{board_of, asking_of, growing_of, begun_of}
use Rattle.pci_grow.proofs.ThereGrows.{coming_there, placed_there}
use Rattle.pci_grow.proofs.growing.growing_by.Goals as goal

pub hold_all-requires-clause-order : goal.hold_all-requires-clause-order
hold_all-requires-clause-order g c =
    let some = c.requires.ready in
    let s = system_in c.args.classing.now.admitted.now in
    let x = reaching_value c.args.reaching in
    subst (IsNonDecreasingBy region_bus) (sym c.as_slice-regions.ensures.value) (buses_rise some.0 s some.1.system some.1.nested (has_room_behind some.0 s) (room_stands some.0 s some.1.system some.1.nested) x.regions some.1.reaching.parts)

pub hold_all-requires-clause-ready : goal.hold_all-requires-clause-ready
hold_all-requires-clause-ready g c =
    let some = c.requires.ready in
    let s = system_in c.args.classing.now.admitted.now in
    let x = reaching_value c.args.reaching in
    let entries = c.as_mut_slice-entries.result.now in
    subst (All (CanBeNoted (length entries))) (sym c.as_slice-regions.ensures.value)
    (ready some.0 s x.regions some.1.reaching.parts x.regions (IsPermutation-refl x.regions) (length entries) (ap length c.as_mut_slice-entries.ensures.value ∙ some.1.reaching.stand.count))

pub hold_all-requires-clause-lines : goal.hold_all-requires-clause-lines
hold_all-requires-clause-lines g c = subst AreLineRows (sym c.as_slice.ensures.value) c.requires.ready.1.reaching.line_rows

pub hold_all-requires-clause-count : goal.hold_all-requires-clause-count
hold_all-requires-clause-count g c = ap length c.as_mut_slice-entries.ensures.value ∙ c.requires.ready.1.reaching.stand.count

pub find_there-requires-clause-order : goal.find_there-requires-clause-order
find_there-requires-clause-order g c = subst (IsNonDecreasingBy region_row_number) (sym c.as_slice-2.ensures.value) c.requires.ready.1.reaching.rise

pub find_there-requires-clause-begun : goal.find_there-requires-clause-begun
find_there-requires-clause-begun g c =
    let some = c.requires.ready in
    let s = system_in c.args.classing.now.admitted.now in
    let p = classing_value c.args.classing.now in
    let l = lists_value c.args.lists.now in
    let w = c.args.windows.now in
    let x = reaching_value c.args.reaching in
    let stand = subst (AreStanding some.0 s) (sym c.as_mut_slice-entries.ensures.value) some.1.reaching.stand in
    let holding = c.in_ok-hold_all.ensures some.0 (asking_of some.0 p l w x some.1 c.as_slice-regions.result.now c.as_slice.result.now c.as_slice-regions.ensures.value c.as_slice.ensures.value) stand in
    let e = c.in_ok-there.ensures in
    record {
      request = some.0;
      growing = growing_of some.0 p l w x some.1 c.as_slice-2.result.now c.as_slice-3.result.now c.as_slice-4.result.now c.as_slice-2.ensures.value c.as_slice-3.ensures.value c.as_slice-4.ensures.value;
      begun = begun_of some.0 p l w x some.1 (tables_of c.in_ok-there.there) c.hold_all.new.table holding e.kept e.grown e.places e.grown_count e.places_count;
    }

pub stay_grown-requires-clause-coming : goal.stay_grown-requires-clause-coming
stay_grown-requires-clause-coming g c =
    let some = c.requires.ready in
    let s = system_in c.args.classing.now.admitted.now in
    let p = classing_value c.args.classing.now in
    let l = lists_value c.args.lists.now in
    let w = c.args.windows.now in
    let x = reaching_value c.args.reaching in
    let stand = subst (AreStanding some.0 s) (sym c.as_mut_slice-entries.ensures.value) some.1.reaching.stand in
    let holding = c.in_ok-hold_all.ensures some.0 (asking_of some.0 p l w x some.1 c.as_slice-regions.result.now c.as_slice.result.now c.as_slice-regions.ensures.value c.as_slice.ensures.value) stand in
    let e = c.in_ok-there.ensures in
    let are = c.in_ok-find_there.ensures some.0
    (growing_of some.0 p l w x some.1 c.as_slice-2.result.now c.as_slice-3.result.now c.as_slice-4.result.now c.as_slice-2.ensures.value c.as_slice-3.ensures.value c.as_slice-4.ensures.value)
    (begun_of some.0 p l w x some.1 (tables_of c.in_ok-there.there) c.hold_all.new.table holding e.kept e.grown e.places e.grown_count e.places_count) in
    let records = c.records-records.result.now in
    ap length c.as_mut_slice.ensures.value ∙ are.grown ∙ same_count s records (lent s records c.records-records.ensures.value c.outline.ensures.records)

pub stay_grown-requires-clause-count : goal.stay_grown-requires-clause-count
stay_grown-requires-clause-count g c =
    let s = system_in c.args.classing.now.admitted.now in
    let records = c.records-records.result.now in
    c.hold_all.auto.table ∙ ap length c.as_mut_slice-entries.ensures.value ∙ c.requires.ready.1.reaching.stand.count ∙ same_count s records (lent s records c.records-records.ensures.value c.outline.ensures.records)

pub stay_grown-requires-clause-ready : goal.stay_grown-requires-clause-ready
stay_grown-requires-clause-ready g c =
    let some = c.requires.ready in
    let s = system_in c.args.classing.now.admitted.now in
    let x = reaching_value c.args.reaching in
    let records = c.records-records.result.now in
    subst (All (CanBeNoted (length records))) (sym c.as_slice-regions.ensures.value)
    (ready some.0 s x.regions some.1.reaching.parts x.regions (IsPermutation-refl x.regions) (length records) (sym (same_count s records (lent s records c.records-records.ensures.value c.outline.ensures.records))))

pub returns : goal.returns
returns g c = λ q can.
    let s = system_in c.args.classing.now.admitted.now in
    let p = classing_value c.args.classing.now in
    let l = lists_value c.args.lists.now in
    let w = c.args.windows.now in
    let x = reaching_value c.args.reaching in
    let stand = subst (AreStanding q s) (sym c.as_mut_slice-entries.ensures.value) can.reaching.stand in
    let regions = c.as_slice-regions.result.now in
    let holding = c.in_ok-hold_all.ensures q (asking_of q p l w x can regions c.as_slice.result.now c.as_slice-regions.ensures.value c.as_slice.ensures.value) stand in
    let e = c.in_ok-there.ensures in
    let are = c.in_ok-find_there.ensures q
    (growing_of q p l w x can c.as_slice-2.result.now c.as_slice-3.result.now c.as_slice-4.result.now c.as_slice-2.ensures.value c.as_slice-3.ensures.value c.as_slice-4.ensures.value)
    (begun_of q p l w x can (tables_of c.in_ok-there.there) c.hold_all.new.table holding e.kept e.grown e.places e.grown_count e.places_count) in
    let t = tables_of c.find_there.new.there in
    let records = c.records-records.result.now in
    let board = board_of q p l w x can records (lent s records c.records-records.ensures.value c.outline.ensures.records) in
    let parts : AreParts q s regions = subst (AreParts q s) (sym c.as_slice-regions.ensures.value) can.reaching.parts in
    let comes = subst (AreComing q s (takes_growth q s)) (sym c.as_mut_slice.ensures.value) (coming_there q s can.system can.nested t are) in
    let kept_long = c.args.reaching.kept.ok.0 in
    let grown_long = c.find_there.new.there.grown.ok.0 in
    record {
      stay = subst (AreStayingBy q s (is_kept q s))
          (sym (slice_back c.args.reaching.kept.len c.stay_grown.new.table c.args.reaching.kept.items (c.stay_grown.auto.table ∙ c.hold_all.auto.table ∙ ap length c.as_mut_slice-entries.ensures.value) (omega (arith, kept_long))))
          (c.in_ok-stay_grown.ensures.stays q s board parts holding comes);
      come = subst (AreComing q s (has_grown q s))
          (sym (slice_back c.find_there.new.there.grown.len c.stay_grown.new.coming c.find_there.new.there.grown.items (c.stay_grown.auto.coming ∙ ap length c.as_mut_slice.ensures.value) (omega (arith, grown_long))))
          (c.in_ok-stay_grown.ensures.grown q s board parts comes);
      are_placed = placed_there q s can.system can.nested t are;
    }
