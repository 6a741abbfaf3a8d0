use Rattle.std.proofs.Common.{◌≡◌, ◌≤◌, length, refl, arith, sym, ◌∙◌, ap}
use Rattle.pci_base.specs.Space.{space_of}
use Rattle.pci_kept.proofs.BusRows.{taken_to, row_first, row_last, begins_before, row_forward}
use Rattle.pci_kept.proofs.taken_on.parts_on.Goals as goal

pub loop-index-init : goal.loop-index-init
loop-index-init g c =
    c.new-parts.ensures.items
    ∙ sym (row_first c.args.regions.now c.args.bus (space_of c.args.space) c.args.table.now c.first_from-first.result c.first_from-first.ensures.bound c.first_from-first.ensures.before)

pub returns-clause-parts : goal.returns-clause-parts
returns-clause-parts g c =
    let rs = c.args.regions.now in
    let first = c.first_from-first.ensures in
    let end = c.first_from-end.ensures in
    let up : c.first_from-first.result ≤ c.first_from-end.result = begins_before rs c.args.bus _ c.first_from-first.result c.first_from-end.result refl first.bound first.before end.after in
    let done : c.loop-index.index ≡ c.first_from-end.result = (let high = c.loop-index.auto.index-end up in let last = c.loop-index-test.false in omega (arith, up, high, last)) in
    c.loop-index.invariant ∙ ap (taken_to rs c.args.bus (space_of c.args.space) c.args.table.now) done ∙ row_last rs c.args.bus (space_of c.args.space) c.args.table.now _ c.first_from-end.result refl end.bound end.after

pub returns-clause-forward : goal.returns-clause-forward
returns-clause-forward g c =
    row_forward c.args.regions.now c.args.bus (space_of c.args.space) c.args.table.now (length c.args.table.now) c.requires.ready c.loop-index.index c.loop-index.parts.items c.loop-index.invariant
