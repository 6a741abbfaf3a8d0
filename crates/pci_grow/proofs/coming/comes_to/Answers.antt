use Rattle.std.proofs.Common.{◌≡◌, ◌++◌, map, length, refl, ap, sym, subst, ◌∙◌, IfSome, IfNone}
use Rattle.pci_spec.specs.System.{window_space}
use Rattle.settle_spec.specs.Lines.{lines_on}
use Rattle.pci_base.specs.declared.range.Range.{Range}
use Rattle.pci_base.specs.Ranges.{decoded_range_of}
use Rattle.pci_base.specs.WindowKinds.{kind_value}
use Rattle.pci_place.specs.Above.{system_in}
use Rattle.pci_place.proofs.Records.{lent}
use Rattle.pci_grow.specs.Arounds.{ArePlacesAround, HaveNoPlaces, AreEndingAll}
use Rattle.pci_grow.specs.Grounds.{Ground, AreAlike}
use Rattle.pci_grow.specs.There.{tables_of, there_of, there_of_class, holding, placed_ranges}
use Rattle.pci_grow.specs.Telling.{setting_value}
use Rattle.pci_grow.proofs.WhatComes.{no_item, none_is, some_is}
use Rattle.pci_grow.proofs.coming.comes_to.Goals as goal

pub returns-in_default-clause-comes : goal.returns-in_default-clause-comes
returns-in_default-clause-comes g c =
    let around = c.args.around.now in
    let setting = c.args.setting.now in
    let ground : Ground = record { records = c.records.result.now; lines = setting.lines.now; class = c.args.class } in
    let items = c.in_ok-items.items.items in
    let none = subst (λ o. IfNone o (HaveNoPlaces around ground c.in_ok-taken.taken.items c.as_slice.result.now)) c.in_default.is c.in_ok-places.ensures.none in
    λ q f growing window told.
    none_is (setting_value setting) (tables_of c.args.there.now) c.args.bridge.now c.args.class around items no_item (c.in_ok-items.ensures.lawful c.requires.lawful) c.in_ok-items.ensures.turn
    ground refl (lent (system_in setting.classing.now.admitted.now) c.records.result.now c.records.ensures.value c.outline.ensures.records) refl _ refl
    q f growing window told c.in_ok-taken.taken.items c.in_ok-taken.ensures.taken (subst (HaveNoPlaces around ground c.in_ok-taken.taken.items) c.as_slice.ensures.value none)

pub held_with_places-all-requires-clause-ends : goal.held_with_places-all-requires-clause-ends
held_with_places-all-requires-clause-ends g c =
    let ground : Ground = record { records = c.records.result.now; lines = c.args.setting.now.lines.now; class = c.args.class } in
    let some = subst (λ o. IfSome o (λ table. ArePlacesAround c.args.around.now ground c.in_ok-taken.taken.items c.as_slice.result.now table.items)) c.in-Some.is c.in_ok-places.ensures.some in
    subst (λ is. AreEndingAll is c.as_slice-3.result.now (length is)) (c.as_slice.ensures.value ∙ sym c.as_slice-2.ensures.value) (subst (λ ps. AreEndingAll c.as_slice.result.now ps (length c.as_slice.result.now)) (sym c.as_slice-3.ensures.value) some.ends)

pub returns-clause-comes : goal.returns-clause-comes
returns-clause-comes g c =
    let around = c.args.around.now in
    let setting = c.args.setting.now in
    let ground : Ground = record { records = c.records.result.now; lines = setting.lines.now; class = c.args.class } in
    let items = c.in_ok-items.items.items in
    let places = c.in-Some.places.items in
    let behind = c.on_bus-behind.result.now in
    let some = subst (λ o. IfSome o (λ table. ArePlacesAround around ground c.in_ok-taken.taken.items c.as_slice.result.now table.items)) c.in-Some.is c.in_ok-places.ensures.some in
    let class_there = there_of_class (kind_value c.args.class) (tables_of c.args.there.now) behind in
    let all_is : c.held_with_places-all.result ≡ holding (holding around.window class_there) (placed_ranges items places) =
    c.held_with_places-all.ensures
    ∙ ap (λ h. holding h (placed_ranges c.as_slice-2.result.now c.as_slice-3.result.now)) c.held_with-held.ensures
    ∙ ap (λ is. holding (holding around.window class_there) (placed_ranges is c.as_slice-3.result.now)) c.as_slice-2.ensures.value
    ∙ ap (λ ps. holding (holding around.window class_there) (placed_ranges items ps)) c.as_slice-3.ensures.value in
    λ q f growing window told.
    some_is (setting_value setting) (tables_of c.args.there.now) c.args.bridge.now c.args.class around items no_item (c.in_ok-items.ensures.lawful c.requires.lawful) c.in_ok-items.ensures.turn
    ground refl (lent (system_in setting.classing.now.admitted.now) c.records.result.now c.records.ensures.value c.outline.ensures.records) refl behind c.on_bus-behind.ensures
    q f growing window told c.in_ok-taken.taken.items
    (λ p n lines level. subst (λ row. AreAlike (map decoded_range_of c.in_ok-taken.taken.items) (lines_on p (window_space (kind_value c.args.class)) n ++ map decoded_range_of (there_of (tables_of c.args.there.now) row))) (sym c.on_bus-behind.ensures) (c.in_ok-taken.ensures.taken p n lines level))
    places (subst (λ is. ArePlacesAround around ground c.in_ok-taken.taken.items is places) c.as_slice.ensures.value some) c.grown_to-range.result
    (λ others first last. c.grown_to-range.ensures others (ap (λ (r : Range). r.first) all_is ∙ first) (ap (λ (r : Range). r.last) all_is ∙ last))

pub returns-clause-count : goal.returns-clause-count
returns-clause-count g c =
    let ground : Ground = record { records = c.records.result.now; lines = c.args.setting.now.lines.now; class = c.args.class } in
    let some = subst (λ o. IfSome o (λ table. ArePlacesAround c.args.around.now ground c.in_ok-taken.taken.items c.as_slice.result.now table.items)) c.in-Some.is c.in_ok-places.ensures.some in
    some.count ∙ ap length c.as_slice.ensures.value
