use Rattle.std.proofs.Common.{◌≡◌, [], ◌∷◌, ◌++◌, List, map, length, ◌∙◌, sym, ap, subst, Vec}
use Rattle.pci_base.specs.WindowKinds.{kind_value}
use Rattle.pci_base.specs.declared.range.Range.{Range}
use Rattle.pci_place.specs.Above.{system_in}
use Rattle.pci_place.proofs.Records.{lent}
use Rattle.pci_first_fit.specs.Buses.{listing_value}
use Rattle.pci_first_fit.specs.declared.item.Item.{Item}
use Rattle.pci_kept.specs.Rooms.{wanted_value, AreTakenBehindBridge}
use Rattle.pci_kept.specs.Behind.{AreBehindEach}
use Rattle.pci_kept.proofs.Rooms.{wanted_lawful, room_is}
use Rattle.pci_kept.proofs.room.has_places.Goals as goal

pub place_all-requires-clause-wanted : goal.place_all-requires-clause-wanted
place_all-requires-clause-wanted g c =
    let wanted_is : c.as_slice-5.result.now ≡ map wanted_value c.in_ok-items.items.items = c.as_slice-5.ensures.value ∙ c.in_ok-wanted.ensures ∙ ap (map wanted_value) c.as_slice.ensures.value in
    wanted_lawful c.in_ok-items.items.items (c.in_ok-items.ensures.lawful c.requires.lawful) c.as_slice-5.result.now wanted_is (length c.as_slice-3.result.now)
    (ap length (c.as_slice-3.ensures.value ∙ c.in_ok-push-2.ensures.items ∙ ap (λ xs. xs ++ c.push.new.self ∷ []) c.new-lists.ensures.items))

pub returns : goal.returns
returns g c = λ q keeps b is.
    let rs = c.args.takers.now.regions.now in
    let lines = c.args.takers.now.lines.now in
    let table = c.args.listing.now.kept.now in
    let bus = c.args.bus in
    let class = kind_value c.args.listing.now.class in
    let s = system_in c.args.listing.now.classing.now.admitted.now in
    let records = c.records-records.result.now in
    let lists = λ (v : Vec Range g.row.A.Denot). v.items in
    let own = c.in_ok-items.items.items in
    let wanted_is : c.as_slice-5.result.now ≡ map wanted_value own = c.as_slice-5.ensures.value ∙ c.in_ok-wanted.ensures ∙ ap (map wanted_value) c.as_slice.ensures.value in
    let taken = c.in_ok-taken.taken.items in
    let taken_are = subst (λ space. AreTakenBehindBridge rs lines bus space table taken) c.of-space.ensures c.in_ok-taken.ensures.taken in
    let lists_are = ap (map lists) (c.as_slice-3.ensures.value ∙ c.in_ok-push-2.ensures.items ∙ ap (λ xs. xs ++ c.push.new.self ∷ []) c.new-lists.ensures.items)
    ∙ ap (λ xs. xs ∷ []) (c.in_ok-push.ensures.items ∙ ap (λ xs. xs ++ c.args.range ∷ []) c.new-window.ensures.items) in
    let behind = subst (λ bs. AreBehindEach records lines class own (map lists bs)) (sym c.as_slice-4.ensures.value)
    (subst (λ (xs : List Item). AreBehindEach records lines class xs (map lists c.in_ok-behind.behind.items)) c.as_slice-2.ensures.value c.in_ok-behind.ensures) in
    room_is (listing_value c.args.listing.now bus) rs lines c.args.range
    own c.in_ok-items.ensures.turn (c.in_ok-items.ensures.lawful c.requires.lawful) c.as_slice-5.result.now wanted_is taken taken_are
    records (lent s records c.records-records.ensures.value c.outline.ensures.records) _ behind _ lists_are
    c.place_all.new.places c.in_ok-lack.lack c.in_ok-lack.ensures.within c.in_ok-lack.ensures.placing q keeps b is c.is_none.result c.is_none.ensures
