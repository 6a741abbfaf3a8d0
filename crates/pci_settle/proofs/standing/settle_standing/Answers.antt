use Rattle.std.proofs.Common.{[], length, refl, sym, ◌∙◌, ap, subst}
use Rattle.std.proofs.lemmas.Result.{err_from_is_err_and}
use Rattle.settle_spec.specs.Stands.{stands}
use Rattle.settle_spec.specs.Items.{has_room_behind}
use Rattle.settle_spec.specs.Kept.{as_it_stands}
use Rattle.pci_place.specs.Above.{system_in}
use Rattle.pci_first_fit.specs.declared.told.ToldRanges.{ToldRanges}
use Rattle.pci_first_fit.specs.Slots.{demand_value}
use Rattle.pci_kept.specs.Known.{asked_by_rules}
use Rattle.pci_settle.specs.Ended.{held_value, IsEndOfSettling}
use Rattle.pci_settle.proofs.HeldTables.{asked_is, table_stand, table_stay, rest_can_be_left, told_rest}
use Rattle.pci_settle.proofs.Refusals.{unstanding, kept_standing, ended_too_large}
use Rattle.pci_settle.proofs.Unkept.{unreached, unkept, all_reached, all_kept}
use Rattle.pci_settle.proofs.standing.settle_standing.Goals as goal

pub returns-in-Some-clause-refusal : goal.returns-in-Some-clause-refusal
returns-in-Some-clause-refusal g c =
    let a = c.args.admitted.now in
    let q = asked_by_rules a.roots (demand_value c.args.lists.now) c.args.rules.now in
    unreached a q (as_it_stands q (system_in a)) c.in-Some.fault (c.in-Some.ensures q (system_in a) c.requires.bounds.told)

pub returns-in-Some-fixed_without-clause-refusal : goal.returns-in-Some-fixed_without-clause-refusal
returns-in-Some-fixed_without-clause-refusal g c =
    let a = c.args.admitted.now in
    let l = demand_value c.args.lists.now in
    let q = asked_by_rules a.roots l c.args.rules.now in
    let reached = all_reached q (system_in a) (c.in_default.ensures q (system_in a) c.requires.bounds.told) in
    unstanding a q (as_it_stands q (system_in a)) reached c.in-Some-fixed_without.fault
    (c.in-Some-fixed_without.ensures q (stands q (system_in a)) (asked_is a l c.args.rules.now) c.requires.bounds.fixed
    (table_stand a l c.args.rules.now c.as_slice.result.now c.as_slice.ensures.value c.in_ok-stand.ensures))

pub returns-in_err-table-clause-refusal : goal.returns-in_err-table-clause-refusal
returns-in_err-table-clause-refusal g c =
    let a = c.args.admitted.now in
    let l = demand_value c.args.lists.now in
    let q = asked_by_rules a.roots l c.args.rules.now in
    let p = err_from_is_err_and c.from_residual-in_err-table.result c.from_residual-in_err-table.ensures.1 in
    let reached = all_reached q (system_in a) (c.in_default.ensures q (system_in a) c.requires.bounds.told) in
    let stand = kept_standing a q reached
    (c.in_default-fixed_without.ensures q (stands q (system_in a)) (asked_is a l c.args.rules.now) c.requires.bounds.fixed
    (table_stand a l c.args.rules.now c.as_slice.result.now c.as_slice.ensures.value c.in_ok-stand.ensures)) in
    rw (p.1, p.2) (ended_too_large a q c.requires.rest stand c.in_err-table.field-0.0 c.in_err-table.ensures.fault)

pub returns-in-Some-first_without-clause-refusal : goal.returns-in-Some-first_without-clause-refusal
returns-in-Some-first_without-clause-refusal g c =
    let a = c.args.admitted.now in
    let l = demand_value c.args.lists.now in
    let q = asked_by_rules a.roots l c.args.rules.now in
    let keep = as_it_stands q (system_in a) in
    let reached = all_reached q (system_in a) (c.in_default.ensures q (system_in a) c.requires.bounds.told) in
    let stand = kept_standing a q reached
    (c.in_default-fixed_without.ensures q (stands q (system_in a)) (asked_is a l c.args.rules.now) c.requires.bounds.fixed
    (table_stand a l c.args.rules.now c.as_slice.result.now c.as_slice.ensures.value c.in_ok-stand.ensures)) in
    unkept a q keep stand c.in-Some-first_without.fault
    (c.in-Some-first_without.ensures q keep (asked_is a l c.args.rules.now) c.requires.bounds
    (table_stay a l c.args.rules.now c.as_slice-stay.result.now c.as_slice-stay.ensures.value (has_room_behind q (system_in a)) c.in_ok-table.ensures.stay))

pub settle_held-requires-clause-left : goal.settle_held-requires-clause-left
settle_held-requires-clause-left g c =
    rest_can_be_left c.args.admitted.now (demand_value c.args.lists.now) c.args.rules.now c.outline-outline.ensures.admitted c.records.result.now c.records.ensures.value c.outline-outline.ensures.records
    _ c.open_windows-over.ensures c.as_slice-stay.result.now c.as_slice-stay.ensures.value c.as_slice-stay.ensures.value refl c.in_ok-table.ensures.stay

pub returns-clause-staying : goal.returns-clause-staying
returns-clause-staying g c = c.in_ok-table.ensures.stay.count

pub returns-clause-told : goal.returns-clause-told
returns-clause-told g c =
    ap length c.in_ok-copy_of.ensures ∙ c.requires.has.told.standing ∙ ap (λ (t : ToldRanges). length t.ranges.now) c.requires.told

pub returns-clause-ends : goal.returns-clause-ends
returns-clause-ends g c =
    let a = c.args.admitted.now in
    let l = demand_value c.args.lists.now in
    let q = asked_by_rules a.roots l c.args.rules.now in
    let keep = as_it_stands q (system_in a) in
    let held = c.in_ok-held.held in
    let reached = all_reached q (system_in a) (c.in_default.ensures q (system_in a) c.requires.bounds.told) in
    let stand = kept_standing a q reached
    (c.in_default-fixed_without.ensures q (stands q (system_in a)) (asked_is a l c.args.rules.now) c.requires.bounds.fixed
    (table_stand a l c.args.rules.now c.as_slice.result.now c.as_slice.ensures.value c.in_ok-stand.ensures)) in
    let stay = all_kept a q keep (c.in_default-first_without.ensures q keep (asked_is a l c.args.rules.now) c.requires.bounds
    (table_stay a l c.args.rules.now c.as_slice-stay.result.now c.as_slice-stay.ensures.value (has_room_behind q (system_in a)) c.in_ok-table.ensures.stay)) in
    subst (λ standing. IsEndOfSettling q keep a (held_value held c.in_ok-table.table.items c.new.result.items standing)) (sym c.in_ok-copy_of.ensures)
    (subst (λ grown. IsEndOfSettling q keep a (held_value held c.in_ok-table.table.items grown c.args.bounds.now.told.standing.now)) (sym c.new.ensures.items)
    (subst (λ staying. IsEndOfSettling q keep a (held_value held staying [] c.args.bounds.now.told.standing.now)) c.as_slice-stay.ensures.value
    (c.in_ok-held.ensures.ends q keep c.requires.bounds
    (told_rest a l c.args.rules.now c.outline-outline.ensures.admitted c.records.result.now c.records.ensures.value c.outline-outline.ensures.records
    _ c.open_windows-over.ensures c.as_slice-stay.result.now c.as_slice-stay.ensures.value c.as_slice-stay.ensures.value refl c.in_ok-table.ensures.stay
    record { stand = stand; stay = stay }))))

pub returns-in_err-held-clause-refusal : goal.returns-in_err-held-clause-refusal
returns-in_err-held-clause-refusal g c =
    let a = c.args.admitted.now in
    let l = demand_value c.args.lists.now in
    let q = asked_by_rules a.roots l c.args.rules.now in
    let keep = as_it_stands q (system_in a) in
    let reached = all_reached q (system_in a) (c.in_default.ensures q (system_in a) c.requires.bounds.told) in
    let stand = kept_standing a q reached
    (c.in_default-fixed_without.ensures q (stands q (system_in a)) (asked_is a l c.args.rules.now) c.requires.bounds.fixed
    (table_stand a l c.args.rules.now c.as_slice.result.now c.as_slice.ensures.value c.in_ok-stand.ensures)) in
    let stay = all_kept a q keep (c.in_default-first_without.ensures q keep (asked_is a l c.args.rules.now) c.requires.bounds
    (table_stay a l c.args.rules.now c.as_slice-stay.result.now c.as_slice-stay.ensures.value (has_room_behind q (system_in a)) c.in_ok-table.ensures.stay)) in
    let p = err_from_is_err_and c.from_residual-in_err-held.result c.from_residual-in_err-held.ensures.1 in
    rw (p.1, p.2) (c.in_err-held.ensures.refusal q keep c.requires.bounds
    (told_rest a l c.args.rules.now c.outline-outline.ensures.admitted c.records.result.now c.records.ensures.value c.outline-outline.ensures.records
    _ c.open_windows-over.ensures c.as_slice-stay.result.now c.as_slice-stay.ensures.value c.as_slice-stay.ensures.value refl c.in_ok-table.ensures.stay
    record { stand = stand; stay = stay }))
