use Rattle.std.proofs.Common.{◌+◌, ap, List, ℕ, ◌++◌, drop, subst, ◌∙◌, ◌≡◌, ◌∷◌, []}
use Rattle.std.proofs.lemmas.Result.{err_from_is_err_and}
use Rattle.pci_spec.specs.Form.{rows_text}
use Rattle.pci_dump.proofs.Whole.{short_stops, no_slot_stops, low_stops, title_stops, rest_stops, found_in, not_false}
use Rattle.pci_dump.specs.BlockFault.{RestStops}
use Rattle.pci_dump.proofs.parse.block_into.Goals as goal

pub returns-then-bytes-lt-SLOT_LEN-clause-err : goal.returns-then-bytes-lt-SLOT_LEN-clause-err
returns-then-bytes-lt-SLOT_LEN-clause-err c = short_stops _ _ _ c.requires c.part_of_slot.ensures

pub returns-in-None-clause-err : goal.returns-in-None-clause-err
returns-in-None-clause-err c = no_slot_stops _ _ _ c.split_at.result.1.now c.split_at.ensures.by_index.0 c.split_at.ensures.front_len c.in-None.ensures.none

pub returns-then-not-may_follow-clause-err : goal.returns-then-not-may_follow-clause-err
returns-then-not-may_follow-clause-err c =
    low_stops _ _ _ c.split_at.result.1.now c.in-Some.slot c.split_at.ensures.by_index.0 c.in-Some.ensures.some (λ h. not_false c.may_follow.result c.if-not-may_follow.true (c.may_follow.ensures.1 h))

pub returns-in_err-title_len-clause-err : goal.returns-in_err-title_len-clause-err
returns-in_err-title_len-clause-err c =
    let p = err_from_is_err_and c.from_residual.result c.from_residual.ensures.1 in
    rw (p.1, p.2) (title_stops _ _ _ c.split_at.result.1.now c.in-Some.slot _ c.split_at.ensures.by_index.0 c.in-Some.ensures.some (c.may_follow.ensures.0 c.if-not-may_follow.false) c.in_err-title_len.ensures.err)

pub returns-in_err-image_into-clause-err : goal.returns-in_err-image_into-clause-err
returns-in_err-image_into-clause-err c =
    let rest_is = c.split_at-2.ensures.back ∙ ap (λ (n : ℕ). drop n c.split_at.result.1.now) c.head_len-head.ensures in
    let p = err_from_is_err_and c.from_residual-in_err-image_into.result c.from_residual-in_err-image_into.ensures.1 in
    rw (p.1, p.2) (rest_stops _ _ _ c.split_at.result.1.now c.in-Some.slot _ _ c.split_at.ensures.by_index.0 c.in-Some.ensures.some (c.may_follow.ensures.0 c.if-not-may_follow.false) c.in_ok-title_len.ensures.ok
    (subst (λ (t : List ℕ). RestStops t c.in_err-image_into.field-0.0) rest_is c.in_err-image_into.ensures.err))

pub returns-clause-ok : goal.returns-clause-ok
returns-clause-ok c =
    let rest_is = c.split_at-2.ensures.back ∙ ap (λ (n : ℕ). drop n c.split_at.result.1.now) c.head_len-head.ensures in
    let image = c.in_ok-image_into.ensures.image in
    found_in _ _ _ c.split_at.result.1.now c.in-Some.slot c.in_ok-title_len.title_len _ c.image_into.new.image _ c.split_at.ensures.by_index.0 c.split_at.ensures.front_len c.split_at.ensures.back
    c.in-Some.ensures.some (c.may_follow.ensures.0 c.if-not-may_follow.false) c.in_ok-title_len.ensures.ok c.title_into.ensures image.0 image.1
    (subst (λ (t : List ℕ). t ≡ (rows_text 0 16 c.image_into.new.image ++ 10 ∷ []) ++ drop 833 t) rest_is c.in_ok-image_into.ensures.ok)
    (ap (λ (n : ℕ). 7 + n + 833) c.head_len-head.ensures)
