use Rattle.std.proofs.Common.{rules, ◌≡◌, List, [], length, None, Some, refl, subst, sym, ◌∙◌, arith}
use Rattle.std.specs.String.{string_bytes}
use Rattle.std.proofs.lemmas.Bool.{eqb-true}
use Rattle.std.proofs.lemmas.List.{nil_from_length}
use Rattle.std.proofs.lemmas.Result.{on_ok_weaker}
use Rattle.pci_base.specs.Space.{space_of}
use Rattle.pci_base.specs.declared.range.Range.{Range}
use Rattle.pci_claims.specs.Values.{code_given_value, told_value}
use Rattle.pci_map.specs.declared.seat.Seat.{Seat}
use Rattle.pci_map.specs.Values.{Mapped}
use Rattle.pci_map.specs.Walk.{merged, ArePlacesWritten}
use Rattle.pci_map.specs.Seats.{AreSeatsOn}
use Rattle.pci_map.proofs.Lefts.{way_here}
use Rattle.pci_map.proofs.Ups.{none_to_root}
use Rattle.pci_map.proofs.TakingLines.{rises, above_bridge, slot_above, no_lines, some_lines}
use Rattle.pci_map.proofs.takings.push_taking.Goals as goal

pub returns-then-bus-own : goal.returns-then-bus-own
returns-then-bus-own g c = λ s root of listed below.
    let mapped = c.args.walk.now.mapped.now in
    let it = of.takers_are.each c.args.taker listed in
    let up = rises mapped.outline.now.roots s c.args.taker.bus c.args.taker.slot of.is.sent.tree.nested it.0 (it.1, it.2.bridge, it.2.behind) it.2.slot in
    let low = c.if-bus-own.true in
    let own = c.bus-own.ensures in
    absurd (let no : ⊥ = omega (arith, up, low, own) in no)

pub push_place-requires-clause-deep : goal.push_place-requires-clause-deep
push_place-requires-clause-deep g c =
    let same = c.in_ok-place.ensures.bus in
    let low = c.if-bus-own.false in
    omega (arith, same, low)

pub returns-in_default : goal.returns-in_default
returns-in_default g c = λ s root of listed below.
    let mapped = c.args.walk.now.mapped.now in
    let it = of.takers_are.each c.args.taker listed in
    let way = way_here (code_given_value mapped.given) mapped.outline.now.roots s mapped.ways.now c.args.taker.bus c.index-ways-bus.result None (search rules) c.index-ways-bus.is c.in_default.is of.ways_are in
    absurd (none_to_root mapped.outline.now.roots s of.is.sent.tree.nested c.args.taker.bus it.0 (it.1, it.2.bridge, it.2.behind) way)

pub returns-then-is_empty : goal.returns-then-is_empty
returns-then-is_empty g c = λ s root of listed below.
    let mapped = c.args.walk.now.mapped.now in
    let told = told_value mapped.told in
    let given = code_given_value mapped.given in
    let roots = mapped.outline.now.roots in
    let bus = c.args.taker.bus in
    let it = of.takers_are.each c.args.taker listed in
    let way = way_here given roots s mapped.ways.now bus c.index-ways-bus.result (Some c.in-Some.windows) (search rules) c.index-ways-bus.is c.in-Some.is of.ways_are in
    let above = above_bridge given roots s bus c.in-Some.windows it.0 (it.1, it.2.bridge, it.2.behind) way in
    let qs : List Seat = c.in_ok-place.place.regions.items in
    let is_none = eqb-true c.in_ok-place.place.regions.len 0 (sym c.is_empty.ensures ∙ c.if-is_empty.true) in
    let whole = c.in_ok-place.place.regions.ok in
    let none : length qs ≡ 0 = omega (arith, is_none, whole) in
    no_lines told given roots s (space_of c.args.walk.now.space) above.bridge.b above.bridge.b.slot bus above.bridge.leads refl of.is.sent.tree.one qs (c.in_ok-place.ensures.taken s of above) root c.args.taker
    (slot_above given roots s bus c.in-Some.windows it.0 (it.1, it.2.bridge, it.2.behind) above ∙ it.2.slot) (string_bytes c.args.text.now) (nil_from_length qs none)

pub returns : goal.returns
returns g c =
    on_ok_weaker c.push_place.result
    (λ last s root of listed below. (
    let mapped = c.args.walk.now.mapped.now in
    let told = told_value mapped.told in
    let given = code_given_value mapped.given in
    let roots = mapped.outline.now.roots in
    let space = space_of c.args.walk.now.space in
    let bus = c.args.taker.bus in
    let it = of.takers_are.each c.args.taker listed in
    let way = way_here given roots s mapped.ways.now bus c.index-ways-bus.result (Some c.in-Some.windows) (search rules) c.index-ways-bus.is c.in-Some.is of.ways_are in
    let above = above_bridge given roots s bus c.in-Some.windows it.0 (it.1, it.2.bridge, it.2.behind) way in
    let place = c.in_ok-place.place in
    let qs : List Seat = place.regions.items in
    let are = c.in_ok-place.ensures.taken s of above in
    let m : Mapped = record { told = told; given = given; roots = roots; system = s; space = space } in
    let some : qs ≡ [] → ⊥ = λ none. search (rules, none) in
    let placed = last s of.is (subst (λ n. AreSeatsOn told s n space qs) (sym c.in_ok-place.ensures.bus) are.each) in
    some_lines told given roots s space above.bridge.b above.bridge.b.slot bus above.bridge.leads refl of.is.sent.tree.one qs are root c.args.taker
    (slot_above given roots s bus c.in-Some.windows it.0 (it.1, it.2.bridge, it.2.behind) above ∙ it.2.slot)
    (string_bytes c.args.text.now) (string_bytes c.push_taking_heading.new.text) (string_bytes c.push_place.new.text) some below c.in_ok-push_taking_heading.ensures
    (subst (λ (rs : List Range). ArePlacesWritten m 2 (merged space qs rs) (string_bytes c.push_taking_heading.new.text) (string_bytes c.push_place.new.text)) c.in_ok-place.ensures.runs placed)))
    c.push_place.ensures
