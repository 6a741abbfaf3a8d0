use Rattle.std.proofs.Common.{◌≡◌, ◌∙◌, true, false, ap, sym, subst, arith}
use Rattle.std.specs.List.{list_any}
use Rattle.std.proofs.lemmas.List.Elements.{All-contains}
use Rattle.pci_spec.specs.Slot.{IsSlot, slot_number}
use Rattle.judge_spec.specs.Told.{ToldRange}
use Rattle.settle_spec.specs.Lines.{is_held_line}
use Rattle.settle_spec.specs.Stands.{stands, is_range_in_place, is_range_kept_off}
use Rattle.pci_kept.specs.declared.rows.Row.{Row}
use Rattle.pci_kept.specs.Rows.{rows_keep_off}
use Rattle.pci_kept.specs.LineRows.{row_key, nobody}
use Rattle.pci_kept.specs.StandingRanges.{row_shares}
use Rattle.pci_kept.specs.ToldLines.{unnamed}
use Rattle.pci_kept.proofs.RangesFree.{kept_off_held, shared, third_off, none_off}
use Rattle.pci_kept.proofs.ranges.is_free.Goals as goal

pub returns-then-keep_off : goal.returns-then-keep_off
returns-then-keep_off c = λ q s tree told standing lines is.
    let t = c.args.range.now in
    let n = c.args.line.level in
    let slot = ap (λ (x : ToldRange). x.slot) c.range.view_is in
    let space = ap (λ (x : ToldRange). x.space) c.range.view_is in
    let rows = c.args.ground.now.held.rows.now in
    let kept : is_range_kept_off q (unnamed t) ≡ true =
    sym (c.keep_off.ensures
    ∙ ap (λ m. rows_keep_off rows m c.from.result c.extent.result) (c.row_key-key.ensures ∙ ap (row_key n) space)
    ∙ ap (λ m. rows_keep_off rows (row_key n t.space) m c.extent.result) (c.from.ensures ∙ c.number.ensures.number ∙ ap slot_number slot)
    ∙ kept_off_held q told t (subst IsSlot slot c.number.ensures.slot) n is.level c.extent.result c.extent.ensures rows lines) ∙ c.if-keep_off.true in
    third_off (is_held_line (unnamed t)) (is_range_in_place q s (stands q s) (unnamed t)) (is_range_kept_off q (unnamed t)) (list_any (row_shares (row_key n t.space) t) c.args.ground.now.parts.rows.now) kept

pub returns : goal.returns
returns c = λ q s tree told standing lines is.
    let t = c.args.range.now in
    let n = c.args.line.level in
    let slot = ap (λ (x : ToldRange). x.slot) c.range.view_is in
    let space = ap (λ (x : ToldRange). x.space) c.range.view_is in
    let rows = c.args.ground.now.held.rows.now in
    let parts = c.args.ground.now.parts.rows.now in
    let kept : is_range_kept_off q (unnamed t) ≡ false =
    sym (c.keep_off.ensures
    ∙ ap (λ m. rows_keep_off rows m c.from.result c.extent.result) (c.row_key-key.ensures ∙ ap (row_key n) space)
    ∙ ap (λ m. rows_keep_off rows (row_key n t.space) m c.extent.result) (c.from.ensures ∙ c.number.ensures.number ∙ ap slot_number slot)
    ∙ kept_off_held q told t (subst IsSlot slot c.number.ensures.slot) n is.level c.extent.result c.extent.ensures rows lines) ∙ c.if-keep_off.false in
    let free : c.keep_off-2.result ≡ list_any (row_shares (row_key n t.space) t) parts =
    c.keep_off-2.ensures
    ∙ ap (λ m. rows_keep_off parts m 65537 c.extent-2.result) (c.row_key-key.ensures ∙ ap (row_key n) space)
    ∙ shared parts 65537 (λ r has same. let own = All-contains (λ (r : Row). r.owner ≡ nobody) parts r c.requires.nobody has in let no : ⊥ = omega (arith, own, same) in no) (row_key n t.space) t c.extent-2.result c.extent-2.ensures in
    none_off (is_held_line (unnamed t)) (is_range_in_place q s (stands q s) (unnamed t)) (is_range_kept_off q (unnamed t)) (list_any (row_shares (row_key n t.space) t) parts) c.keep_off-2.result (sym c.is_held.ensures ∙ c.if-is_held.false) (sym (c.is_in_place.ensures q s tree standing is) ∙ c.if-not-is_in_place.false) kept free
