use Rattle.std.proofs.Common.{◌++◌, ◌^◌, ◌<◌, [], ◌∙◌, map, length, sym, ap, subst, Option, ℕ, Vec, arith}
use Rattle.std.specs.Option.{IfSome}
use Rattle.std.specs.List.{filter}
use Rattle.std.proofs.lemmas.Bool.{eqb-true}
use Rattle.std.proofs.lemmas.List.{get_or-map}
use Rattle.plan_spec.specs.Place.{range_from}
use Rattle.settle_spec.specs.FirstPlace.{first_place}
use Rattle.pci_base.specs.declared.range.Range.{Range}
use Rattle.pci_base.specs.Ranges.{decoded_range_of}
use Rattle.pci_first_fit.specs.Spots.{extent_value, is_near}
use Rattle.pci_first_fit.proofs.Behind.{no_ranges, not_told, far_ready, near_place_is, near_ready}
use Rattle.pci_first_fit.proofs.placing.wanted_near.Goals as goal

pub returns-then-is_empty-2 : goal.returns-then-is_empty-2
returns-then-is_empty-2 g c =
    let items = λ (v : Vec Range g.row.B.Denot). v.items in
    far_ready (length c.args.lists.now) (map items c.args.lists.now) c.args.behind.now c.args.taken.now c.as_slice-ranges.result.now c.add_near.new.out.items c.args.wanted.now c.requires
    (c.as_slice-ranges.ensures.value ∙ ap items c.index-lists-list.is ∙ sym (get_or-map items c.args.lists.now c.args.wanted.now.list c.index-lists-list.result [] c.requires.list))
    (c.in_ok-add_near.ensures ∙ ap (λ xs. xs ++ filter (is_near c.as_slice-ranges.result.now) c.args.behind.now) c.new-near.ensures.items)
    (no_ranges c.add_near.new.out.items
    (let long = c.add_near.new.out.ok.0 in
    let none = eqb-true c.add_near.new.out.len 0 (sym c.is_empty-2.ensures ∙ c.if-is_empty-2.true) in
    omega (arith, long, none)))

pub returns-in-Some : goal.returns-in-Some
returns-in-Some g c =
    let items = λ (v : Vec Range g.row.B.Denot). v.items in
    near_ready (length c.args.lists.now) (map items c.args.lists.now) c.args.behind.now c.args.taken.now c.as_slice-ranges.result.now c.add_near.new.out.items c.args.wanted.now c.requires
    (c.as_slice-ranges.ensures.value ∙ ap items c.index-lists-list.is ∙ sym (get_or-map items c.args.lists.now c.args.wanted.now.list c.index-lists-list.result [] c.requires.list))
    (c.in_ok-add_near.ensures ∙ ap (λ xs. xs ++ filter (is_near c.as_slice-ranges.result.now) c.args.behind.now) c.new-near.ensures.items)
    (not_told c.args.wanted.now.at (sym c.is_some.ensures ∙ c.if-is_some.false)) c.in_ok-at.field-0
    (c.in_ok-at.ensures.place ∙ ap (λ xs. first_place (map decoded_range_of c.as_slice-ranges.result.now) (map decoded_range_of xs ++ map decoded_range_of c.args.taken.now) (extent_value c.args.wanted.now.extent)) c.as_slice.ensures.value)
    c.in-Some.at c.in-Some.is
    (subst (λ (o : Option ℕ). IfSome o (λ at. (range_from at c.args.wanted.now.extent.size).last < 2 ^ 64)) c.in-Some.is c.in_ok-at.ensures.ends)

pub returns : goal.returns
returns g c =
    let items = λ (v : Vec Range g.row.B.Denot). v.items in
    near_place_is (length c.args.lists.now) (map items c.args.lists.now) c.args.behind.now c.args.taken.now c.as_slice-ranges.result.now c.add_near.new.out.items c.args.wanted.now c.requires
    (c.as_slice-ranges.ensures.value ∙ ap items c.index-lists-list.is ∙ sym (get_or-map items c.args.lists.now c.args.wanted.now.list c.index-lists-list.result [] c.requires.list))
    (c.in_ok-add_near.ensures ∙ ap (λ xs. xs ++ filter (is_near c.as_slice-ranges.result.now) c.args.behind.now) c.new-near.ensures.items)
    (not_told c.args.wanted.now.at (sym c.is_some.ensures ∙ c.if-is_some.false)) c.in_ok-at.field-0
    (c.in_ok-at.ensures.place ∙ ap (λ xs. first_place (map decoded_range_of c.as_slice-ranges.result.now) (map decoded_range_of xs ++ map decoded_range_of c.args.taken.now) (extent_value c.args.wanted.now.extent)) c.as_slice.ensures.value)
    ∙ c.in-None.is
