use Rattle.std.proofs.Common.{◌≤◌, rules}
use Rattle.pci_base.specs.Space.{space_of}
use Rattle.pci_kept.proofs.Helds.{row_order, row_sorted, taken_listed}
use Rattle.pci_kept.proofs.held.taken_on.Goals as goal

pub slice_bounds-add_taken-count : goal.slice_bounds-add_taken-count
slice_bounds-add_taken-count g c =
    row_order c.args.held.now c.args.level c.first_from-first.result c.first_from-end.result c.first_from-first.ensures.bound c.first_from-first.ensures.before c.first_from-end.ensures.after

pub slice_bounds-add_taken-start : goal.slice_bounds-add_taken-start
slice_bounds-add_taken-start g c =
    let le : c.first_from-first.result ≤ c.first_from-end.result =
    row_order c.args.held.now c.args.level c.first_from-first.result c.first_from-end.result c.first_from-first.ensures.bound c.first_from-first.ensures.before c.first_from-end.ensures.after in
    search rules

pub returns-clause-taken : goal.returns-clause-taken
returns-clause-taken g c =
    row_sorted c.args.held.now c.args.level (space_of c.args.space) c.first_from-first.result c.first_from-end.result c.first_from-first.ensures.bound c.first_from-first.ensures.before c.first_from-end.ensures.after
    _ _ c.sort_by_first.new.taken.items c.new-taken.ensures.items c.in_ok-add_taken.ensures c.sort_by_first.ensures.permutation

pub returns-clause-listed : goal.returns-clause-listed
returns-clause-listed g c =
    taken_listed c.args.held.now c.args.level (space_of c.args.space) c.sort_by_first.new.taken.items
    (row_sorted c.args.held.now c.args.level (space_of c.args.space) c.first_from-first.result c.first_from-end.result c.first_from-first.ensures.bound c.first_from-first.ensures.before c.first_from-end.ensures.after
    _ _ c.sort_by_first.new.taken.items c.new-taken.ensures.items c.in_ok-add_taken.ensures c.sort_by_first.ensures.permutation)
    c.requires.forward c.sort_by_first.ensures.order
