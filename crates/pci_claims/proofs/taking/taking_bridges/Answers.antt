use Rattle.std.proofs.Common.{List, [], ◌+◌, arith, subst, sym, take}
use Rattle.judge_spec.specs.Given as spec
use Rattle.judge_spec.specs.Unclaimed.{AreTaking}
use Rattle.pci_claims.specs.Values.{code_given_value, told_value}
use Rattle.pci_claims.proofs.Unclaiming.{one_more_taking, all_taking}
use Rattle.pci_claims.proofs.taking.taking_bridges.Goals as goal

pub loop-slot-init : goal.loop-slot-init
loop-slot-init g c s tree = subst (λ (l : List spec.TakingBridge). AreTaking (told_value c.args.board.now.told) (code_given_value c.args.board.now.given) s [] l) (sym c.new-out.ensures.items) (tt {0})

pub loop-slot-preserved : goal.loop-slot-preserved
loop-slot-preserved g c s tree =
    let told = told_value c.args.board.now.told in
    let given = code_given_value c.args.board.now.given in
    subst (λ (l : List spec.TakingBridge). AreTaking told given s (take (c.loop-slot.slot-index + 1) c.args.slots.now) l) (sym c.in_ok-push.ensures.items)
    (one_more_taking told given s c.args.slots.now c.loop-slot.slot-index c.slot-item.result c.loop-slot.out.items c.in_ok-taking.taking (c.loop-slot.invariant s tree) (omega arith) c.slot-item.is
    (c.in_ok-taking.ensures s tree))

pub returns : goal.returns
returns g c s tree =
    all_taking (told_value c.args.board.now.told) (code_given_value c.args.board.now.given) s c.args.slots.now c.loop-slot.slot-index c.loop-slot.out.items (omega arith) (c.loop-slot.invariant s tree)
