use Rattle.std.proofs.Common.{◌≡◌, length, map, arith, ap, sym, subst, ◌∙◌}
use Rattle.std.specs.List.{All}
use Rattle.pci_base.specs.WindowKinds.{kind_value}
use Rattle.pci_first_fit.specs.Own.{asked_item_value}
use Rattle.pci_first_fit.specs.Placings.{at_places}
use Rattle.pci_kept.proofs.Whole.{slice_back}
use Rattle.pci_grow.specs.Putting.{ArePutOver, HasItemPart}
use Rattle.pci_grow.specs.There.{tables_of}
use Rattle.pci_grow.proofs.Noting.{noted_from}
use Rattle.pci_grow.proofs.coming.note_coming.Goals as goal

pub returns-clause-noted : goal.returns-clause-noted
returns-clause-noted g c =
    let there = c.args.there.now in
    let kept_long = there.kept.ok.0 in
    let grown_long = there.grown.ok.0 in
    let places_long = there.places.ok.0 in
    noted_from (tables_of there) c.args.function c.args.class c.args.coming.now.range
    c.as_mut_slice-2.result.now c.note_kept.new.table _ c.as_mut_slice.result.now c.tell.new.table _ c.as_mut_slice-3.result.now c.put_all.new.table _
    c.as_mut_slice-2.ensures.value (slice_back there.kept.len c.note_kept.new.table there.kept.items (c.note_kept.ensures.count ∙ ap length c.as_mut_slice-2.ensures.value) (omega (arith, kept_long)))
    c.note_kept.ensures.count c.note_kept.ensures.kept c.note_kept.ensures.others
    c.as_mut_slice.ensures.value (slice_back there.grown.len c.tell.new.table there.grown.items (c.tell.ensures.count ∙ ap length c.as_mut_slice.ensures.value) (omega (arith, grown_long)))
    c.tell.ensures.count c.tell.ensures.told c.tell.ensures.others
    c.as_mut_slice-3.ensures.value (slice_back there.places.len c.put_all.new.table there.places.items (c.put_all.ensures.count ∙ ap length c.as_mut_slice-3.ensures.value) (omega (arith, places_long)))
    c.put_all.ensures.count

pub returns-clause-placed : goal.returns-clause-placed
returns-clause-placed g c = λ s system same parts.
    let there = c.args.there.now in
    let places_long = there.places.ok.0 in
    let k = kind_value c.args.class in
    let items_are : c.as_slice.result.now ≡ c.args.coming.now.items.items = c.as_slice.ensures.value in
    let places_are : c.as_slice-2.result.now ≡ c.args.coming.now.places.items = c.as_slice-2.ensures.value in
    let from : c.as_mut_slice-3.result.now ≡ there.places.items = c.as_mut_slice-3.ensures.value in
    let put = c.put_all.ensures.put s system (same ∙ sym (ap length from)) (subst (All (HasItemPart s k)) (sym items_are) parts) in
    subst (ArePutOver s (at_places (map (asked_item_value s k) c.args.coming.now.items.items) c.args.coming.now.places.items) there.places.items)
    (sym (slice_back there.places.len c.put_all.new.table there.places.items (c.put_all.ensures.count ∙ ap length from) (omega (arith, places_long))))
    (subst (λ xs. ArePutOver s (at_places (map (asked_item_value s k) xs) c.args.coming.now.places.items) there.places.items c.put_all.new.table) items_are
    (subst (λ ps. ArePutOver s (at_places (map (asked_item_value s k) c.as_slice.result.now) ps) there.places.items c.put_all.new.table) places_are
    (subst (λ t. ArePutOver s (at_places (map (asked_item_value s k) c.as_slice.result.now) c.as_slice-2.result.now) t c.put_all.new.table) from put)))
