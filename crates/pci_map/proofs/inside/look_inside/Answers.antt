use Rattle.std.proofs.Common.{sym, subst, ap, ◌∙◌, List, ◌≡◌}
use Rattle.std.specs.List.{filter}
use Rattle.pci_spec.specs.Decoded.{HasRecords, Record}
use Rattle.pci_base.specs.Space.{space_of}
use Rattle.pci_tree.specs.declared.region.Region.{Region}
use Rattle.pci_claims.specs.Values.{code_given_value, told_value}
use Rattle.pci_map.specs.declared.seat.Seat.{Seat}
use Rattle.pci_map.specs.Seats.{AreSortedSeatsOf}
use Rattle.pci_map.specs.Above.{AreInPlace}
use Rattle.pci_map.specs.Inside.{is_held_first}
use Rattle.pci_map.proofs.Insides.{held_on}
use Rattle.pci_map.proofs.Openings.{no_record, no_bridge, opened}
use Rattle.pci_map.proofs.inside.look_inside.Goals as goal

pub returns-in_default : goal.returns-in_default
returns-in_default g c = λ s of is window.
    no_record s c.records.result.now (space_of c.args.space) c.args.window.now (subst (λ (rs : List Record). HasRecords s rs) (sym c.records.ensures.value) of.tree.records) is
    c.in_default.ensures

pub returns-in_default-bridge : goal.returns-in_default-bridge
returns-in_default-bridge g c = λ s of is window.
    no_bridge s c.records.result.now (space_of c.args.space) c.args.window.now (subst (λ (rs : List Record). HasRecords s rs) (sym c.records.ensures.value) of.tree.records) is
    c.records.ensures.rising window c.in-Some.function.now c.in-Some.ensures.0 c.in-Some.ensures.1 (code_given_value c.args.mapped.now.given) c.in_default-bridge.is

pub returns : goal.returns
returns g c = λ s of is window.
    let told = told_value c.args.mapped.now.told in
    let given = code_given_value c.args.mapped.now.given in
    let qs : List Seat = c.in_ok-all.all.items in
    let w : Region = c.args.window.now in
    let space = space_of c.args.space in
    let keeps = is_held_first w c.in_ok-earlier.earlier c.is_cut-cut.result in
    let out : List Seat = c.in_ok-regions.regions.items in
    let sorted = c.in_ok-all.ensures s of.tree in
    let held : c.in_ok-held.held.items ≡ filter keeps qs = c.in_ok-held.ensures ∙ ap (filter keeps) c.as_slice-2.ensures.value in
    let placed : AreInPlace told given c.args.mapped.now.outline.now.roots s space (filter keeps qs) out =
    subst (λ (xs : List Seat). AreInPlace told given c.args.mapped.now.outline.now.roots s space xs out) held
    (c.in_ok-regions.ensures told given c.args.mapped.now.outline.now s of.sent of.is_told (held_on told s space c.in-Some-bridge.bridge.secondary qs sorted c.in_ok-held.held.items keeps held)) in
    let free = c.in_ok-runs.ensures told s c.in-Some-bridge.bridge.secondary (subst (AreSortedSeatsOf told s c.in-Some-bridge.bridge.secondary space) (sym c.as_slice.ensures.value) sorted) in
    opened s c.records.result.now space w (subst (λ (rs : List Record). HasRecords s rs) (sym c.records.ensures.value) of.tree.records) is
    c.records.ensures.rising window c.in-Some.function.now c.in-Some.ensures.0 c.in-Some.ensures.1 told of.is_told.lawful given c.args.mapped.now.outline.now.roots c.in-Some-bridge.bridge c.in_ok-earlier.earlier c.is_cut-cut.result qs out c.in_ok-runs.runs.items
    (c.records.ensures.nested s of.tree.records) c.in-Some-bridge.is c.is_cut-cut.ensures (c.in_ok-earlier.ensures s of.tree.records) sorted placed free
