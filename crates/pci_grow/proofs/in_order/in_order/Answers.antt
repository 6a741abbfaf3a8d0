use Rattle.std.proofs.Common.{None, sym, subst}
use Rattle.std.specs.List.Sorted.{IsPermutation}
use Rattle.std.proofs.lemmas.List.{get_or_default}
use Rattle.pci_first_fit.specs.Lines.{AreForwardRanges}
use Rattle.pci_first_fit.specs.Spots.{FirstsRise}
use Rattle.pci_grow.proofs.KeptInOrder.{AreKeptOf, kept_none, kept_next, only_those, all_those, sorted_forward}
use Rattle.pci_grow.proofs.in_order.in_order.Goals as goal

pub loop-range-init : goal.loop-range-init
loop-range-init g c = subst (λ xs. AreKeptOf c.as_slice-range-items.result.now 0 xs None) (sym c.new-kept.ensures.items) (kept_none c.as_slice-range-items.result.now)

pub loop-range-preserved : goal.loop-range-preserved
loop-range-preserved g c =
    let sorted = c.as_slice-range-items.ensures.value in
    kept_next c.as_slice-range-items.result.now (subst FirstsRise (sym sorted) c.sort_by_first.ensures.order)
    (subst AreForwardRanges (sym sorted) (sorted_forward c.args.ranges.items c.sort_by_first.new.taken.items c.sort_by_first.ensures.permutation c.requires))
    c.loop-range.range-index c.loop-range-test.true _ (λ d. get_or_default c.as_slice-range-items.result.now c.loop-range.range-index d _ c.loop-range-test.true) c.loop-range.kept.items c.loop-range.end c.loop-range.invariant _ _ c.in_ok-end.ensures

pub returns-clause-order : goal.returns-clause-order
returns-clause-order g c = c.loop-range.invariant.order

pub returns-clause-only : goal.returns-clause-only
returns-clause-only g c =
    only_those c.args.ranges.items c.as_slice-range-items.result.now (subst (IsPermutation c.args.ranges.items) (sym c.as_slice-range-items.ensures.value) c.sort_by_first.ensures.permutation)
    c.loop-range.range-index c.loop-range-test.false c.loop-range.kept.items c.loop-range.end c.loop-range.invariant

pub returns-clause-all : goal.returns-clause-all
returns-clause-all g c =
    all_those c.args.ranges.items c.as_slice-range-items.result.now (subst (IsPermutation c.args.ranges.items) (sym c.as_slice-range-items.ensures.value) c.sort_by_first.ensures.permutation)
    c.loop-range.range-index c.loop-range-test.false c.loop-range.kept.items c.loop-range.end c.loop-range.invariant
