use Rattle.std.proofs.Common.{◌∙◌, ap, sym}
use Rattle.std.proofs.lemmas.Bool.{eqb-true}
use Rattle.std.proofs.lemmas.List.{nil_from_length}
use Rattle.pci_base.specs.Space.{space_of}
use Rattle.pci_kept.specs.Known.{region_value}
use Rattle.pci_kept.specs.Rows.{rows_keep_off}
use Rattle.pci_kept.specs.LineRows.{row_key}
use Rattle.pci_kept.proofs.KeptOff.{no_row_keeps, kept_off_on, kept_off_all}
use Rattle.pci_kept.proofs.off.is_kept_off.Goals as goal

pub returns-then-is_empty : goal.returns-then-is_empty
returns-then-is_empty c = λ q s told is off slot_is.
    no_row_keeps q s (region_value s c.args.region.now) c.args.off.now.all.rows.now off.all
    (nil_from_length c.args.off.now.all.rows.now (eqb-true _ 0 (sym c.is_empty.ensures ∙ c.if-is_empty.true)))

pub returns-then-precedes_off : goal.returns-then-precedes_off
returns-then-precedes_off c = λ q s told is off slot_is.
    let r = c.args.region.now in
    let rows = c.args.off.now.on.rows.now in
    c.keep_off.ensures
    ∙ ap (λ n. rows_keep_off rows n c.from-owner.result r.range) c.row_key-key.ensures
    ∙ ap (λ n. rows_keep_off rows (row_key r.level (space_of r.space)) n r.range) (c.from-owner.ensures ∙ c.number.ensures.number)
    ∙ kept_off_on q s told r is c.args.slot c.number.ensures.slot slot_is (sym c.precedes_off.ensures ∙ c.if-precedes_off.true) rows off.on

pub returns : goal.returns
returns c = λ q s told is off slot_is.
    let r = c.args.region.now in
    let rows = c.args.off.now.all.rows.now in
    c.keep_off-2.ensures
    ∙ ap (λ n. rows_keep_off rows n c.from-owner.result r.range) c.row_key-key.ensures
    ∙ ap (λ n. rows_keep_off rows (row_key r.level (space_of r.space)) n r.range) (c.from-owner.ensures ∙ c.number.ensures.number)
    ∙ kept_off_all q s told r is c.args.slot c.number.ensures.slot slot_is (sym c.precedes_off.ensures ∙ c.if-precedes_off.false) rows off.all
