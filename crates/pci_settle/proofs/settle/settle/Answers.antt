use Rattle.std.proofs.Common.{◌≡◌, ◌∙◌, false, map, refl, sym, ap}
use Rattle.std.proofs.lemmas.Result.{err_from_is_err_and}
use Rattle.pci_spec.specs.Mark.{all_named}
use Rattle.settle_spec.specs.Lists.{are_bad_lists}
use Rattle.settle_spec.specs.Assumed.{assumed_region}
use Rattle.settle_spec.specs.Sparing.{without_slots}
use Rattle.pci_place.specs.Above.{system_in}
use Rattle.pci_plan.specs.Writes.{write_value}
use Rattle.pci_first_fit.specs.Slots.{demand_value}
use Rattle.pci_settle.specs.Requests.{request}
use Rattle.pci_settle.specs.Denied.{denied_value}
use Rattle.pci_settle.specs.Fixed.{assumed_part}
use Rattle.pci_settle.proofs.Refusals.{none_found}
use Rattle.pci_settle.proofs.Outcomes.{refusal_of}
use Rattle.pci_settle.proofs.Spared.{highest_of, soundly, as_told}
use Rattle.pci_settle.proofs.settle.settle.Goals as goal

pub settle_sparing-requires-clause-fine : goal.settle_sparing-requires-clause-fine
settle_sparing-requires-clause-fine g c =
    let a = c.args.admitted.now in
    let d = demand_value c.args.lists.now in
    sym (c.are_bad.ensures ∙ ap (λ rs. are_bad_lists rs d.lists) (c.roots-roots.ensures ∙ c.outline.ensures.roots)) ∙ c.if-are_bad.false

pub returns-clause-sound : goal.returns-clause-sound
returns-clause-sound g c =
    let a = c.args.admitted.now in
    let d = demand_value c.args.lists.now in
    let q = request a.roots d c.args.fixed.now c.args.anew in
    let fine : are_bad_lists a.roots d.lists ≡ false = sym (c.are_bad.ensures ∙ ap (λ rs. are_bad_lists rs d.lists) (c.roots-roots.ensures ∙ c.outline.ensures.roots)) ∙ c.if-are_bad.false in
    let x = c.in_ok-settled.settled in
    (soundly a c.outline.ensures.admitted q refl fine (highest_of c.args.lists.now.pref.now c.end_in_64_bits.ensures) x.dump (map write_value x.writes.all.items) x.writes.closings (map denied_value x.denied.items)
    c.in_ok-settled.ensures.spared).sound

pub returns-clause-reached : goal.returns-clause-reached
returns-clause-reached g c =
    let a = c.args.admitted.now in
    let d = demand_value c.args.lists.now in
    let q = request a.roots d c.args.fixed.now c.args.anew in
    let fine : are_bad_lists a.roots d.lists ≡ false = sym (c.are_bad.ensures ∙ ap (λ rs. are_bad_lists rs d.lists) (c.roots-roots.ensures ∙ c.outline.ensures.roots)) ∙ c.if-are_bad.false in
    let x = c.in_ok-settled.settled in
    (soundly a c.outline.ensures.admitted q refl fine (highest_of c.args.lists.now.pref.now c.end_in_64_bits.ensures) x.dump (map write_value x.writes.all.items) x.writes.closings (map denied_value x.denied.items)
    c.in_ok-settled.ensures.spared).reached

pub returns-clause-stops : goal.returns-clause-stops
returns-clause-stops g c =
    let a = c.args.admitted.now in
    let d = demand_value c.args.lists.now in
    let q = request a.roots d c.args.fixed.now c.args.anew in
    let fine : are_bad_lists a.roots d.lists ≡ false = sym (c.are_bad.ensures ∙ ap (λ rs. are_bad_lists rs d.lists) (c.roots-roots.ensures ∙ c.outline.ensures.roots)) ∙ c.if-are_bad.false in
    let x = c.in_ok-settled.settled in
    (soundly a c.outline.ensures.admitted q refl fine (highest_of c.args.lists.now.pref.now c.end_in_64_bits.ensures) x.dump (map write_value x.writes.all.items) x.writes.closings (map denied_value x.denied.items)
    c.in_ok-settled.ensures.spared).stops

pub returns-clause-moves : goal.returns-clause-moves
returns-clause-moves g c =
    let a = c.args.admitted.now in
    let d = demand_value c.args.lists.now in
    let q = request a.roots d c.args.fixed.now c.args.anew in
    let fine : are_bad_lists a.roots d.lists ≡ false = sym (c.are_bad.ensures ∙ ap (λ rs. are_bad_lists rs d.lists) (c.roots-roots.ensures ∙ c.outline.ensures.roots)) ∙ c.if-are_bad.false in
    let x = c.in_ok-settled.settled in
    (soundly a c.outline.ensures.admitted q refl fine (highest_of c.args.lists.now.pref.now c.end_in_64_bits.ensures) x.dump (map write_value x.writes.all.items) x.writes.closings (map denied_value x.denied.items)
    c.in_ok-settled.ensures.spared).moves

pub returns-clause-told_sound : goal.returns-clause-told_sound
returns-clause-told_sound g c =
    let a = c.args.admitted.now in
    let d = demand_value c.args.lists.now in
    let q = request a.roots d c.args.fixed.now c.args.anew in
    let fine : are_bad_lists a.roots d.lists ≡ false = sym (c.are_bad.ensures ∙ ap (λ rs. are_bad_lists rs d.lists) (c.roots-roots.ensures ∙ c.outline.ensures.roots)) ∙ c.if-are_bad.false in
    let x = c.in_ok-settled.settled in
    (as_told a c.outline.ensures.admitted q refl fine (highest_of c.args.lists.now.pref.now c.end_in_64_bits.ensures) x.dump (map write_value x.writes.all.items) x.writes.closings (map denied_value x.denied.items)
    c.in_ok-settled.ensures.spared c.args.lists.now.told.lawful refl).sound

pub returns-clause-told_stops : goal.returns-clause-told_stops
returns-clause-told_stops g c =
    let a = c.args.admitted.now in
    let d = demand_value c.args.lists.now in
    let q = request a.roots d c.args.fixed.now c.args.anew in
    let fine : are_bad_lists a.roots d.lists ≡ false = sym (c.are_bad.ensures ∙ ap (λ rs. are_bad_lists rs d.lists) (c.roots-roots.ensures ∙ c.outline.ensures.roots)) ∙ c.if-are_bad.false in
    let x = c.in_ok-settled.settled in
    (as_told a c.outline.ensures.admitted q refl fine (highest_of c.args.lists.now.pref.now c.end_in_64_bits.ensures) x.dump (map write_value x.writes.all.items) x.writes.closings (map denied_value x.denied.items)
    c.in_ok-settled.ensures.spared c.args.lists.now.told.lawful refl).stops

pub returns-clause-always : goal.returns-clause-always
returns-clause-always g c =
    let a = c.args.admitted.now in
    let d = demand_value c.args.lists.now in
    let q = request a.roots d c.args.fixed.now c.args.anew in
    let fine : are_bad_lists a.roots d.lists ≡ false = sym (c.are_bad.ensures ∙ ap (λ rs. are_bad_lists rs d.lists) (c.roots-roots.ensures ∙ c.outline.ensures.roots)) ∙ c.if-are_bad.false in
    let x = c.in_ok-settled.settled in
    (as_told a c.outline.ensures.admitted q refl fine (highest_of c.args.lists.now.pref.now c.end_in_64_bits.ensures) x.dump (map write_value x.writes.all.items) x.writes.closings (map denied_value x.denied.items)
    c.in_ok-settled.ensures.spared c.args.lists.now.told.lawful refl).always

pub returns-clause-off_lines : goal.returns-clause-off_lines
returns-clause-off_lines g c =
    let a = c.args.admitted.now in
    let d = demand_value c.args.lists.now in
    let q = request a.roots d c.args.fixed.now c.args.anew in
    let fine : are_bad_lists a.roots d.lists ≡ false = sym (c.are_bad.ensures ∙ ap (λ rs. are_bad_lists rs d.lists) (c.roots-roots.ensures ∙ c.outline.ensures.roots)) ∙ c.if-are_bad.false in
    let x = c.in_ok-settled.settled in
    (as_told a c.outline.ensures.admitted q refl fine (highest_of c.args.lists.now.pref.now c.end_in_64_bits.ensures) x.dump (map write_value x.writes.all.items) x.writes.closings (map denied_value x.denied.items)
    c.in_ok-settled.ensures.spared c.args.lists.now.told.lawful refl).off

pub returns-in_err-settled-clause-refusal : goal.returns-in_err-settled-clause-refusal
returns-in_err-settled-clause-refusal g c =
    let a = c.args.admitted.now in
    let d = demand_value c.args.lists.now in
    let q = request a.roots d c.args.fixed.now c.args.anew in
    let fine : are_bad_lists a.roots d.lists ≡ false = sym (c.are_bad.ensures ∙ ap (λ rs. are_bad_lists rs d.lists) (c.roots-roots.ensures ∙ c.outline.ensures.roots)) ∙ c.if-are_bad.false in
    let p = err_from_is_err_and c.from_residual.result c.from_residual.ensures.1 in
    rw (p.1, p.2) (refusal_of a (without_slots q) fine (none_found assumed_part (assumed_region (all_named a.probe) (system_in a)) c.in_default.ensures) c.in_err-settled.field-0.0 c.in_err-settled.ensures.refusal)
