use Rattle.std.proofs.Common.{◌<◌, ◌-◌, ◌∙◌, length, inl, inr, arith, ap}
use Rattle.std.proofs.lemmas.List.{get_or_default}
use Rattle.pci_kept.specs.declared.rows.Row.{Row}
use Rattle.pci_kept.proofs.KeepingOff.{no_row}
use Rattle.pci_kept.proofs.RowsApart.{gap}
use Rattle.pci_kept.proofs.apart.gap_for.Goals as goal
use Rattle.pci_kept.proofs.apart.gap_for.Goals.{else-before-row-via-then-before-row+else-row-before, else-before-row-via-else-before-row}

pub returns-clause-some : goal.returns-clause-some
returns-clause-some c =
    let rows = c.args.rows.now in
    let row = c.args.row in
    let index = c.rows_up_to-index.result in
    let bound = c.rows_up_to-index.ensures.bound in
    let some = c.if-index-eq0.false in
    let within : index - 1 < length rows = omega (arith, some, bound) in
    gap rows row c.requires index bound c.rows_up_to-index.ensures.before c.rows_up_to-index.ensures.after
    (elim c.else-before-row.branch [
      | else-before-row-via-then-before-row+else-row-before w ↦ inr (λ d. inr (let ends = w.if-row-before.false in let same = ap (λ (r : Row). r.range.last) (get_or_default rows (index - 1) d no_row within) in omega (arith, ends, same)))
      | else-before-row-via-else-before-row w ↦ inr (λ d. inl (λ same. w.if-before-row.false (ap (λ (r : Row). r.key) (get_or_default rows (index - 1) no_row d within) ∙ same)))
    ])
