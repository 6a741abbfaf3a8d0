use Rattle.std.proofs.Common.{◌≡◌, rules, subst, sym, List, [], length}
use Rattle.std.specs.String.{string_bytes}
use Rattle.std.proofs.lemmas.List.{nil_from_length}
use Rattle.pci_base.specs.Space.{space_of}
use Rattle.pci_base.specs.declared.range.Range.{Range}
use Rattle.pci_claims.specs.Values.{code_given_value, told_value}
use Rattle.pci_map.specs.declared.seat.Seat.{Seat}
use Rattle.pci_map.specs.Seats.{AreSortedSeatsOf}
use Rattle.pci_map.proofs.SpaceTexts.{told_none, told_some}
use Rattle.pci_map.proofs.buses.push_space.Goals as goal

pub returns-then-is_empty-3 : goal.returns-then-is_empty-3
returns-then-is_empty-3 g c = λ s of is_root.
    let mapped = c.args.mapped.now in
    let told = told_value mapped.told in
    let given = code_given_value mapped.given in
    let space = space_of c.args.space in
    let all : List Seat = c.in_ok-all.all.items in
    let qs : List Seat = c.in_ok-regions.regions.items in
    let rs : List Range = c.in_ok-runs.runs.items in
    let no_qs : length qs ≡ 0 = search rules in
    let no_rs : length rs ≡ 0 = search rules in
    let nothing : length (string_bytes c.in_ok-taken.taken) ≡ 0 = search rules in
    let sorted = c.in_ok-all.ensures s of.is.tree in
    told_none told given mapped.outline.now.roots s space c.args.bus all qs rs sorted (c.in_ok-regions.ensures told given mapped.outline.now s of.is.sent of.is.is_told sorted.each)
    (c.in_ok-runs.ensures told s (subst (AreSortedSeatsOf told s c.args.bus space) (sym c.as_slice.ensures.value) sorted)) mapped.takers.now of.takers_are
    (string_bytes c.in_ok-taken.taken) (c.in_ok-taken.ensures s of is_root)
    (string_bytes c.args.text.now) (nil_from_length qs no_qs) (nil_from_length rs no_rs) (nil_from_length (string_bytes c.in_ok-taken.taken) nothing)

pub returns : goal.returns
returns g c = λ s of is_root.
    let mapped = c.args.mapped.now in
    let told = told_value mapped.told in
    let given = code_given_value mapped.given in
    let space = space_of c.args.space in
    let all : List Seat = c.in_ok-all.all.items in
    let qs : List Seat = c.in_ok-regions.regions.items in
    let rs : List Range = c.in_ok-runs.runs.items in
    let taken = string_bytes c.in_ok-taken.taken in
    let sorted = c.in_ok-all.ensures s of.is.tree in
    let placed = c.in_ok-regions.ensures told given mapped.outline.now s of.is.sent of.is.is_told sorted.each in
    let some : qs ≡ [] → rs ≡ [] → taken ≡ [] → ⊥ = λ none no_runs nothing. search (rules, none, no_runs, nothing) in
    told_some told given mapped.outline.now.roots s space c.args.bus all qs rs sorted placed
    (c.in_ok-runs.ensures told s (subst (AreSortedSeatsOf told s c.args.bus space) (sym c.as_slice.ensures.value) sorted)) mapped.takers.now of.takers_are
    taken (c.in_ok-taken.ensures s of is_root)
    (string_bytes c.args.text.now) (string_bytes c.push_heading.new.text) (string_bytes c.push_place.new.text) (string_bytes c.push_str.new.self) some c.in_ok-push_heading.ensures
    (c.in_ok-push_place.ensures s of.is (λ q has. sorted.each q (placed.each q has))) (search rules)
