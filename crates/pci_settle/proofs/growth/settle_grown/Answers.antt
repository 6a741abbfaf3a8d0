use Rattle.std.proofs.Common.{length, refl, sym, ◌∙◌, ap, subst}
use Rattle.std.proofs.lemmas.Result.{err_from_is_err_and}
use Rattle.settle_spec.specs.Kept.{is_kept, growing}
use Rattle.pci_base.specs.declared.memory.Refused.TheVariants as refused
use Rattle.pci_place.specs.Above.{system_in}
use Rattle.pci_first_fit.specs.declared.told.ToldRanges.{ToldRanges}
use Rattle.pci_first_fit.specs.Slots.{demand_value}
use Rattle.pci_kept.specs.Known.{asked_by_rules}
use Rattle.pci_grow.specs.Growing.{grown_value}
use Rattle.pci_settle.specs.Ended.{held_value, IsEndOfSettling}
use Rattle.pci_settle.proofs.HeldTables.{asked_is, table_stay, left_opened, grown_can_be_left, told_grown}
use Rattle.pci_settle.proofs.Outcomes.{unkept_grown, growing_fixed, not_grown}
use Rattle.pci_settle.proofs.Unkept.{unreached, all_reached, all_kept}
use Rattle.pci_settle.proofs.growth.settle_grown.Goals as goal

pub returns-in-Some-clause-refusal : goal.returns-in-Some-clause-refusal
returns-in-Some-clause-refusal g c =
    let a = c.args.admitted.now in
    let q = asked_by_rules a.roots (demand_value c.args.lists.now) c.args.rules.now in
    not_grown a q (refused.Fault c.in-Some.fault) (unreached a q (growing q (system_in a)) c.in-Some.fault (c.in-Some.ensures q (system_in a) c.requires.bounds.told))

pub returns-in-Some-first_without-clause-refusal : goal.returns-in-Some-first_without-clause-refusal
returns-in-Some-first_without-clause-refusal g c =
    let a = c.args.admitted.now in
    let l = demand_value c.args.lists.now in
    let q = asked_by_rules a.roots l c.args.rules.now in
    unkept_grown a q c.in-Some-first_without.fault (c.in-Some-first_without.ensures q (growing q (system_in a)) (asked_is a l c.args.rules.now) c.requires.bounds
    (table_stay a l c.args.rules.now c.as_slice-stay.result.now c.as_slice-stay.ensures.value (is_kept q (system_in a)) c.in_ok-grown.ensures.grown.stay))

pub settle_held-requires-clause-left : goal.settle_held-requires-clause-left
settle_held-requires-clause-left g c =
    let a = c.args.admitted.now in
    let l = demand_value c.args.lists.now in
    let q = asked_by_rules a.roots l c.args.rules.now in
    let admitted = c.outline-outline.ensures.admitted in
    grown_can_be_left a l c.args.rules.now admitted c.records.result.now c.records.ensures.value c.outline-outline.ensures.records
    c.left-left.result (left_opened c.open_windows-over.ensures c.left-left.ensures.over) c.as_slice-stay.result.now c.as_slice-stay.ensures.value
    (grown_value c.in_ok-grown.grown) refl c.in_ok-grown.ensures.grown
    (c.left-left.ensures.tells q (system_in a) admitted.system admitted.nested admitted.profile c.in_ok-grown.ensures.grown)

pub returns-clause-staying : goal.returns-clause-staying
returns-clause-staying g c = c.in_ok-grown.ensures.grown.stay.count

pub returns-clause-told : goal.returns-clause-told
returns-clause-told g c =
    ap length c.in_ok-copy_of.ensures ∙ c.requires.has.told.standing ∙ ap (λ (t : ToldRanges). length t.ranges.now) c.requires.told

pub returns-clause-ends : goal.returns-clause-ends
returns-clause-ends g c =
    let a = c.args.admitted.now in
    let l = demand_value c.args.lists.now in
    let q = asked_by_rules a.roots l c.args.rules.now in
    let keep = growing q (system_in a) in
    let held = c.in_ok-held.held in
    let standing = c.args.bounds.now.told.standing.now in
    let admitted = c.outline-outline.ensures.admitted in
    let reached = all_reached q (system_in a) (c.in_default.ensures q (system_in a) c.requires.bounds.told) in
    let stay = all_kept a q keep (c.in_default-first_without.ensures q keep (asked_is a l c.args.rules.now) c.requires.bounds
    (table_stay a l c.args.rules.now c.as_slice-stay.result.now c.as_slice-stay.ensures.value (is_kept q (system_in a)) c.in_ok-grown.ensures.grown.stay)) in
    subst (λ flags. IsEndOfSettling q keep a (held_value held c.in_ok-grown.grown.stays.items c.in_ok-grown.grown.coming.items flags)) (sym c.in_ok-copy_of.ensures)
    (subst (λ staying. IsEndOfSettling q keep a (held_value held staying c.in_ok-grown.grown.coming.items standing)) c.as_slice-stay.ensures.value
    (subst (λ grown. IsEndOfSettling q keep a (held_value held c.as_slice-stay.result.now grown standing)) c.left-left.ensures.grown
    (c.in_ok-held.ensures.ends q keep c.requires.bounds
    (told_grown a l c.args.rules.now admitted c.records.result.now c.records.ensures.value c.outline-outline.ensures.records
    c.left-left.result (left_opened c.open_windows-over.ensures c.left-left.ensures.over) c.as_slice-stay.result.now c.as_slice-stay.ensures.value
    (grown_value c.in_ok-grown.grown) refl c.in_ok-grown.ensures.grown
    (c.left-left.ensures.tells q (system_in a) admitted.system admitted.nested admitted.profile c.in_ok-grown.ensures.grown) (growing_fixed q (system_in a) reached stay)))))

pub returns-in_err-held-clause-refusal : goal.returns-in_err-held-clause-refusal
returns-in_err-held-clause-refusal g c =
    let a = c.args.admitted.now in
    let l = demand_value c.args.lists.now in
    let q = asked_by_rules a.roots l c.args.rules.now in
    let keep = growing q (system_in a) in
    let admitted = c.outline-outline.ensures.admitted in
    let reached = all_reached q (system_in a) (c.in_default.ensures q (system_in a) c.requires.bounds.told) in
    let stay = all_kept a q keep (c.in_default-first_without.ensures q keep (asked_is a l c.args.rules.now) c.requires.bounds
    (table_stay a l c.args.rules.now c.as_slice-stay.result.now c.as_slice-stay.ensures.value (is_kept q (system_in a)) c.in_ok-grown.ensures.grown.stay)) in
    let p = err_from_is_err_and c.from_residual-in_err-held.result c.from_residual-in_err-held.ensures.1 in
    rw (p.1, p.2) (not_grown a q c.in_err-held.field-0.0 (c.in_err-held.ensures.refusal q keep c.requires.bounds
    (told_grown a l c.args.rules.now admitted c.records.result.now c.records.ensures.value c.outline-outline.ensures.records
    c.left-left.result (left_opened c.open_windows-over.ensures c.left-left.ensures.over) c.as_slice-stay.result.now c.as_slice-stay.ensures.value
    (grown_value c.in_ok-grown.grown) refl c.in_ok-grown.ensures.grown
    (c.left-left.ensures.tells q (system_in a) admitted.system admitted.nested admitted.profile c.in_ok-grown.ensures.grown)
    (growing_fixed q (system_in a) reached stay))))
