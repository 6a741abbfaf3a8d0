use Rattle.std.proofs.Common.{◌<◌, ◌^◌, None, get_or, subst, arith}
use Rattle.std.proofs.lemmas.List.{get_or_default}
use Rattle.std.proofs.lemmas.List.Elements.{AllWithin-more}
use Rattle.pci_base.specs.declared.range.RootRange.{RootRange}
use Rattle.pci_settle.proofs.settle.end_in_64_bits.Goals as goal

pub loop-i-preserved : goal.loop-i-preserved
loop-i-preserved c =
    let none : RootRange = record { root = None; range = record { first = 0; last = 0 } } in
    let most = c.last_of-last.ensures in
    let small : (get_or c.args.list.now c.loop-i.i none).range.last < 2 ^ 64 = omega (arith, most) in
    AllWithin-more (λ (r : RootRange). r.range.last < 2 ^ 64) c.args.list.now 0 c.loop-i.i c.loop-i.invariant
    (λ d. subst (λ (r : RootRange). r.range.last < 2 ^ 64) (get_or_default c.args.list.now c.loop-i.i none d c.loop-i-test.true) small)
