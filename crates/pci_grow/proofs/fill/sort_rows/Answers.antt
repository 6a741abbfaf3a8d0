use Rattle.std.proofs.Common.{◌<◌, length, sym, subst, arith, Vec}
use Rattle.std.specs.List.Sorted.{IsPermutation}
use Rattle.std.proofs.lemmas.List.{length-map}
use Rattle.pci_base.specs.declared.range.Range.{Range}
use Rattle.pci_grow.proofs.Filled.{sorted_step, sorted_whole}
use Rattle.pci_grow.proofs.fill.sort_rows.Goals as goal

pub loop-index-preserved : goal.loop-index-preserved
loop-index-preserved g c =
    let within : c.loop-index.index < length c.loop-index.rows = omega (arith, c.loop-index-test.true, c.loop-index.auto.rows) in
    sorted_step c.loop-index.rows c.loop-index.index within c.index-rows-index.result c.sort_by_first.new.taken c.index-rows-index.is _ c.loop-index.invariant
    (subst (λ (v : Vec Range g.row.A.Denot). IsPermutation v.items c.sort_by_first.new.taken.items) (sym c.index-rows-index.is) c.sort_by_first.ensures.permutation)
    c.sort_by_first.ensures.order

pub returns-clause-sorted : goal.returns-clause-sorted
returns-clause-sorted g c =
    let long = length-map c.loop-index.rows (λ v. v.items) in
    sorted_whole _ _ _ c.loop-index.invariant (omega (arith, long, c.loop-index-test.false, c.loop-index.auto.rows))
