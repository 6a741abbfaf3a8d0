use Rattle.std.proofs.Common.{◌≤◌, rules}
use Rattle.pci_grow.proofs.Gathered.{row_is, row_rises}
use Rattle.pci_grow.proofs.there.in_row.Goals as goal

pub slice_bounds-result-count : goal.slice_bounds-result-count
slice_bounds-result-count c =
    row_rises c.args.rows.now c.args.number c.first_from-first.result c.first_from-end.result c.first_from-first.ensures.bound c.first_from-end.ensures.bound c.first_from-first.ensures.before c.first_from-end.ensures.after

pub slice_bounds-result-start : goal.slice_bounds-result-start
slice_bounds-result-start c =
    let le : c.first_from-first.result ≤ c.first_from-end.result =
    row_rises c.args.rows.now c.args.number c.first_from-first.result c.first_from-end.result c.first_from-first.ensures.bound c.first_from-end.ensures.bound c.first_from-first.ensures.before c.first_from-end.ensures.after in
    search rules

pub returns : goal.returns
returns c =
    row_is c.args.rows.now c.args.number c.first_from-first.result c.first_from-end.result
    (row_rises c.args.rows.now c.args.number c.first_from-first.result c.first_from-end.result c.first_from-first.ensures.bound c.first_from-end.ensures.bound c.first_from-first.ensures.before c.first_from-end.ensures.after)
    c.first_from-end.ensures.bound c.first_from-first.ensures.before c.first_from-first.ensures.after c.first_from-end.ensures.before c.first_from-end.ensures.after
