use Rattle.std.proofs.Common.{List, ◌++◌, ap, arith, ◌∙◌}
use Rattle.std.proofs.lemmas.List.{take_all}
use Rattle.pci_claims.specs.declared.given.TakingBridge.{TakingBridge}
use Rattle.pci_claims.proofs.Unclaiming.{one_more_lent}
use Rattle.pci_claims.proofs.taking.all_lent.Goals as goal

pub loop-bridge-preserved : goal.loop-bridge-preserved
loop-bridge-preserved g c =
    one_more_lent c.args.taking.now c.loop-bridge.bridge-index c.bridge-item.result c.lent.result c.loop-bridge.out.items _ c.loop-bridge.invariant (omega arith) c.bridge-item.is c.lent.ensures
    (c.in_ok-extend_from_slice.ensures.items ∙ ap (λ (xs : List TakingBridge). c.loop-bridge.out.items ++ xs) c.from_ref.ensures.value)

pub returns : goal.returns
returns g c = c.loop-bridge.invariant ∙ take_all c.loop-bridge.bridge-index c.args.taking.now (omega arith)
