use Rattle.std.proofs.Common.{◌≤◌, rules, refl}
use Rattle.pci_tree.proofs.BusParts.{begins_before, part_between}
use Rattle.pci_tree.proofs.bus.on_bus.Goals as goal

pub slice_bounds-result-count : goal.slice_bounds-result-count
slice_bounds-result-count c =
    begins_before c.args.records.now c.args.bus _ c.first_from-first.result c.first_from-end.result refl c.first_from-first.ensures.bound c.first_from-first.ensures.before c.first_from-end.ensures.after

pub slice_bounds-result-start : goal.slice_bounds-result-start
slice_bounds-result-start c =
    let le : c.first_from-first.result ≤ c.first_from-end.result =
    begins_before c.args.records.now c.args.bus _ c.first_from-first.result c.first_from-end.result refl c.first_from-first.ensures.bound c.first_from-first.ensures.before c.first_from-end.ensures.after in
    search rules

pub returns : goal.returns
returns c =
    let le : c.first_from-first.result ≤ c.first_from-end.result =
    begins_before c.args.records.now c.args.bus _ c.first_from-first.result c.first_from-end.result refl c.first_from-first.ensures.bound c.first_from-first.ensures.before c.first_from-end.ensures.after in
    part_between c.args.records.now c.args.bus _ c.first_from-first.result c.first_from-end.result refl c.requires.rising le c.first_from-end.ensures.bound c.first_from-first.ensures.before
    c.first_from-first.ensures.after c.first_from-end.ensures.before c.first_from-end.ensures.after
