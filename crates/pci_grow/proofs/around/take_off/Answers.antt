use Rattle.std.proofs.Common.{◌++◌, map, ap, sym, subst, ◌∙◌}
use Rattle.std.specs.List.{Contains}
use Rattle.settle_spec.specs.Growth.{place_around}
use Rattle.pci_base.specs.Ranges.{decoded_range_of}
use Rattle.pci_first_fit.specs.Spots.{extent_value, spot_place, IsBetweenTaken, FirstsRise}
use Rattle.pci_grow.specs.Arounds.{AreRisingAtBothEnds}
use Rattle.pci_grow.specs.Grounds.{AreAlike}
use Rattle.pci_grow.specs.Widest.{LiesInOne}
use Rattle.pci_grow.proofs.AlikeTaken.{alike_around}
use Rattle.pci_grow.proofs.Behind.{put_off}
use Rattle.pci_grow.proofs.Searches.{still_in_order}
use Rattle.pci_grow.proofs.around.take_off.Goals as goal

pub next_spot-requires-clause-search : goal.next_spot-requires-clause-search
next_spot-requires-clause-search g c = c.begin-search.ensures.search c.as_slice-2.result.now

pub returns-in_default-clause-place : goal.returns-in_default-clause-place
returns-in_default-clause-place g c = λ held is.
    ap spot_place (sym c.in_default.is) ∙ c.next_spot.ensures.place
    ∙ ap (λ e. place_around (decoded_range_of c.args.ground.now.around.window) (decoded_range_of c.args.ground.now.around.reach) (map decoded_range_of c.as_slice-2.result.now) (extent_value e)) c.begin-search.ensures.extent
    ∙ alike_around (decoded_range_of c.args.ground.now.around.window) (decoded_range_of c.args.ground.now.around.reach) (extent_value c.args.item.now.extent) (map decoded_range_of c.as_slice-2.result.now) (held ++ map decoded_range_of c.args.taken.now.items)
    c.requires.item.size c.requires.item.alignment
    (subst (λ xs. AreAlike (map decoded_range_of xs) (held ++ map decoded_range_of c.args.taken.now.items)) (sym c.as_slice-2.ensures.value)
    (subst (λ xs. AreAlike (map decoded_range_of c.in_ok-all.all.items) (held ++ map decoded_range_of xs)) c.as_slice.ensures.value (c.in_ok-all.ensures.same held is)))

pub first_from-index-requires : goal.first_from-index-requires
first_from-index-requires g c = subst FirstsRise (sym c.as_slice-3.ensures.value) c.requires.listed.rising.order

pub returns-clause-place : goal.returns-clause-place
returns-clause-place g c = λ held is.
    ap spot_place (sym c.in-Some.is) ∙ c.next_spot.ensures.place
    ∙ ap (λ e. place_around (decoded_range_of c.args.ground.now.around.window) (decoded_range_of c.args.ground.now.around.reach) (map decoded_range_of c.as_slice-2.result.now) (extent_value e)) c.begin-search.ensures.extent
    ∙ alike_around (decoded_range_of c.args.ground.now.around.window) (decoded_range_of c.args.ground.now.around.reach) (extent_value c.args.item.now.extent) (map decoded_range_of c.as_slice-2.result.now) (held ++ map decoded_range_of c.args.taken.now.items)
    c.requires.item.size c.requires.item.alignment
    (subst (λ xs. AreAlike (map decoded_range_of xs) (held ++ map decoded_range_of c.args.taken.now.items)) (sym c.as_slice-2.ensures.value)
    (subst (λ xs. AreAlike (map decoded_range_of c.in_ok-all.all.items) (held ++ map decoded_range_of xs)) c.as_slice.ensures.value (c.in_ok-all.ensures.same held is)))

pub returns-clause-taken : goal.returns-clause-taken
returns-clause-taken g c =
    put_off c.args.taken.now.items c.requires.listed c.as_slice-2.result.now
    (λ r has. subst (λ xs. LiesInOne xs r) (sym c.as_slice-2.ensures.value) (c.in_ok-all.ensures.taken r (subst (λ xs. Contains xs r) (sym c.as_slice.ensures.value) has)))
    c.args.item.now.extent c.in-Some.spot
    (subst (λ e. IsBetweenTaken c.as_slice-2.result.now e c.in-Some.spot) c.begin-search.ensures.extent c.in-Some.ensures.between)
    c.as_slice-3.result.now c.as_slice-3.ensures.value c.first_from-index.result c.first_from-index.ensures.bound c.first_from-index.ensures.before c.first_from-index.ensures.after
    c.insert.new.self.items c.in_ok-insert.ensures.items

pub returns-clause-listed : goal.returns-clause-listed
returns-clause-listed g c =
    let put = put_off c.args.taken.now.items c.requires.listed c.as_slice-2.result.now
    (λ r has. subst (λ xs. LiesInOne xs r) (sym c.as_slice-2.ensures.value) (c.in_ok-all.ensures.taken r (subst (λ xs. Contains xs r) (sym c.as_slice.ensures.value) has)))
    c.args.item.now.extent c.in-Some.spot
    (subst (λ e. IsBetweenTaken c.as_slice-2.result.now e c.in-Some.spot) c.begin-search.ensures.extent c.in-Some.ensures.between)
    c.as_slice-3.result.now c.as_slice-3.ensures.value c.first_from-index.result c.first_from-index.ensures.bound c.first_from-index.ensures.before c.first_from-index.ensures.after
    c.insert.new.self.items c.in_ok-insert.ensures.items in
    subst AreRisingAtBothEnds (sym put.put.put) (still_in_order c.args.taken.now.items c.args.item.now.extent put.spot c.requires.listed put.put.between)
