use Rattle.std.proofs.Common.{◌∙◌, map, length, ap, subst, arith, refl, Vec}
use Rattle.pci_base.specs.declared.range.Range.{Range}
use Rattle.pci_base.specs.Space.{space_of}
use Rattle.pci_place.specs.Above.{system_in}
use Rattle.pci_place.proofs.Records.{lent, same_count}
use Rattle.pci_settle_places.specs.Taken.{AreNearBehindEach}
use Rattle.pci_settle_places.proofs.Buses.{slice_back, slice_within, all_lawful, within_in, places_in}
use Rattle.pci_settle_places.proofs.bus.place_bus.Goals as goal

pub wanted_of-requires : goal.wanted_of-requires
wanted_of-requires g c =
    let s = system_in c.args.pass.now.setting.now.admitted.now in
    let outline = c.outline-outline.ensures in
    let records = c.records-records.result.now in
    let has = lent s records c.records-records.ensures.value outline.records in
    slice_within c.args.pass.now.setting.now.admitted.now.roots s outline.admitted.system (space_of c.args.pass.now.space) c.args.pass.now.setting.now.terms c.args.pass.now.setting.now.staying c.args.pass.now.windows.now c.args.bus c.args.grown.now c.in_ok-candidates.candidates.items c.in_ok-candidates.ensures.items
    _ (c.roots-roots.ensures ∙ outline.roots) _ c.as_slice.ensures.value _ refl c.requires.known (length records) (same_count s records has)

pub behind_each-requires-clause-within : goal.behind_each-requires-clause-within
behind_each-requires-clause-within g c =
    let s = system_in c.args.pass.now.setting.now.admitted.now in
    let outline = c.outline-outline.ensures in
    let records = c.records-records.result.now in
    let has = lent s records c.records-records.ensures.value outline.records in
    slice_within c.args.pass.now.setting.now.admitted.now.roots s outline.admitted.system (space_of c.args.pass.now.space) c.args.pass.now.setting.now.terms c.args.pass.now.setting.now.staying c.args.pass.now.windows.now c.args.bus c.args.grown.now c.in_ok-candidates.candidates.items c.in_ok-candidates.ensures.items
    _ (c.roots-roots.ensures ∙ outline.roots) _ c.as_slice-3.ensures.value _ refl c.requires.known (length records) (same_count s records has)

pub behind_each-requires-clause-wanted : goal.behind_each-requires-clause-wanted
behind_each-requires-clause-wanted g c =
    let s = system_in c.args.pass.now.setting.now.admitted.now in
    let outline = c.outline-outline.ensures in
    let records = c.records-records.result.now in
    let has = lent s records c.records-records.ensures.value outline.records in
    all_lawful c.args.pass.now.setting.now.admitted.now.roots s outline.admitted.system (space_of c.args.pass.now.space) c.args.pass.now.setting.now.terms c.args.pass.now.setting.now.staying c.args.pass.now.windows.now c.args.bus c.args.grown.now c.in_ok-candidates.candidates.items c.in_ok-candidates.ensures.items
    _ (c.roots-roots.ensures ∙ outline.roots) _ c.as_slice.ensures.value c.in_ok-wanted.wanted.items (c.in_ok-wanted.ensures s has) c.requires.known
    _ c.as_slice-2.ensures.value (length c.args.lists.now) c.requires.some c.requires.roots (c.in_ok-candidates.ensures.lawful c.requires.lawful) c.requires.ending

pub place_all-requires-clause-wanted : goal.place_all-requires-clause-wanted
place_all-requires-clause-wanted g c =
    let s = system_in c.args.pass.now.setting.now.admitted.now in
    let outline = c.outline-outline.ensures in
    let records = c.records-records.result.now in
    let has = lent s records c.records-records.ensures.value outline.records in
    all_lawful c.args.pass.now.setting.now.admitted.now.roots s outline.admitted.system (space_of c.args.pass.now.space) c.args.pass.now.setting.now.terms c.args.pass.now.setting.now.staying c.args.pass.now.windows.now c.args.bus c.args.grown.now c.in_ok-candidates.candidates.items c.in_ok-candidates.ensures.items
    _ (c.roots-roots.ensures ∙ outline.roots) _ c.as_slice.ensures.value c.in_ok-wanted.wanted.items (c.in_ok-wanted.ensures s has) c.requires.known
    _ c.as_slice-5.ensures.value (length c.args.lists.now) c.requires.some c.requires.roots (c.in_ok-candidates.ensures.lawful c.requires.lawful) c.requires.ending

pub returns-clause-placing : goal.returns-clause-placing
returns-clause-placing g c =
    let s = system_in c.args.pass.now.setting.now.admitted.now in
    let outline = c.outline-outline.ensures in
    let records = c.records-records.result.now in
    let has = lent s records c.records-records.ensures.value outline.records in
    let long = c.in_ok-places.places.ok.0 in
    let items = λ (v : Vec Range g.row.A.Denot). v.items in
    places_in c.args.pass.now.setting.now.admitted.now.roots s outline.admitted.system (space_of c.args.pass.now.space) c.args.pass.now.setting.now.terms c.args.pass.now.setting.now.staying c.args.pass.now.windows.now c.args.bus c.args.grown.now c.in_ok-candidates.candidates.items c.in_ok-candidates.ensures.items
    _ (c.roots-roots.ensures ∙ outline.roots) _ c.as_slice.ensures.value c.in_ok-wanted.wanted.items (c.in_ok-wanted.ensures s has) c.requires.known
    _ c.as_slice-5.ensures.value c.place_all.new.places c.in_ok-lack.lack _
    (slice_back c.in_ok-places.places.len c.place_all.new.places c.in_ok-places.places.items (c.place_all.auto.places ∙ ap length c.as_mut_slice.ensures.value) (omega (arith, long)))
    records has (map items c.in_ok-behind.behind.items) _ (ap (map items) c.as_slice-4.ensures.value) (map items c.args.lists.now) c.as_slice-2.result.now c.as_slice-2.ensures.value
    (subst (λ xs. AreNearBehindEach records c.args.pass.now.setting.now.staying.lines.now (map items c.args.lists.now) c.as_slice-2.result.now xs (map items c.in_ok-behind.behind.items)) c.as_slice-3.ensures.value c.in_ok-behind.ensures)
    _ (c.level-level.ensures) (c.in_ok-candidates.ensures.lawful c.requires.lawful) _ c.in_ok-taken.ensures.taken c.in_ok-lack.ensures.placing

pub returns-clause-within : goal.returns-clause-within
returns-clause-within g c =
    let s = system_in c.args.pass.now.setting.now.admitted.now in
    let outline = c.outline-outline.ensures in
    let records = c.records-records.result.now in
    let has = lent s records c.records-records.ensures.value outline.records in
    let long = c.in_ok-places.places.ok.0 in
    let even = c.place_all.auto.places ∙ ap length c.as_mut_slice.ensures.value in
    let places = c.in_ok-places.ensures.len in
    let candidates = c.len.ensures in
    let listed = c.in_ok-candidates.candidates.ok.0 in
    within_in c.args.pass.now.setting.now.admitted.now.roots s outline.admitted.system (space_of c.args.pass.now.space) c.args.pass.now.setting.now.terms c.args.pass.now.setting.now.staying c.args.pass.now.windows.now c.args.bus c.args.grown.now c.in_ok-candidates.candidates.items c.in_ok-candidates.ensures.items
    _ (c.roots-roots.ensures ∙ outline.roots) _ c.as_slice.ensures.value c.in_ok-wanted.wanted.items (c.in_ok-wanted.ensures s has) c.requires.known
    _ c.as_slice-5.ensures.value c.place_all.new.places c.in_ok-lack.lack _
    (slice_back c.in_ok-places.places.len c.place_all.new.places c.in_ok-places.places.items (c.place_all.auto.places ∙ ap length c.as_mut_slice.ensures.value) (omega (arith, long)))
    (c.in_ok-candidates.ensures.lawful c.requires.lawful) (omega (arith, long, even, places, candidates, listed)) c.in_ok-lack.ensures.within c.in_ok-lack.ensures.ends
