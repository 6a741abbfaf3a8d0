use Rattle.std.proofs.Common.{arith, refl, subst, take}
use Rattle.std.proofs.lemmas.List.{take_all}
use Rattle.pci_picture.proofs.Starts.{AreCounts, all_summed, counts_more, no_counts, none_summed, summed_more}
use Rattle.pci_picture.proofs.board.starts_of.Goals as goal

pub loop-function-init : goal.loop-function-init
loop-function-init c = no_counts

pub loop-function-preserved : goal.loop-function-preserved
loop-function-preserved c =
    counts_more c.args.functions.now c.loop-function.function-index c.function-item.result c.loop-function.starts c.bus_of.result _ _ c.loop-function-test.true c.function-item.is
    c.bus_of.ensures (omega arith) refl (omega arith) (λ fits. omega (arith, c.saturating_add.ensures, fits)) c.loop-function.invariant

pub loop-bus-init : goal.loop-bus-init
loop-bus-init c =
    none_summed c.args.functions.now c.loop-function.starts
    (subst (λ l. AreCounts l c.loop-function.starts) (take_all c.loop-function.function-index c.args.functions.now c.loop-function-test.false) c.loop-function.invariant)

pub loop-bus-preserved : goal.loop-bus-preserved
loop-bus-preserved c =
    summed_more c.args.functions.now c.loop-bus.starts c.loop-bus.bus _ (omega (arith, c.loop-bus.auto.bus)) (omega (arith, c.loop-bus-test.true)) (omega arith)
    (λ fits. omega (arith, c.saturating_add-in-loop-bus.ensures, fits)) c.loop-bus.invariant

pub returns : goal.returns
returns c = all_summed c.args.functions.now c.loop-bus.starts c.loop-bus.bus (omega (arith, c.loop-bus-test.false)) c.loop-bus.invariant
