use Rattle.std.proofs.Common.{◌≡◌, ◌+◌, cond, get_or, arith, ◌∙◌, sym, ap}
use Rattle.pci_place.proofs.RootNeeds.{sum_none, sum_more, sum_all}
use Rattle.pci_place.proofs.room.need_of_roots.Goals as goal
use Rattle.pci_place.proofs.room.need_of_roots.Goals.{then-has, else-has}

pub loop-bus-init : goal.loop-bus-init
loop-bus-init c = sum_none c.args.roots.now.flags c.args.needs.now.of_bus

pub loop-bus-preserved : goal.loop-bus-preserved
loop-bus-preserved c =
    let need = get_or c.args.needs.now.of_bus c.loop-bus.bus 0 in
    let none : c.loop-bus.sum + 0 ≡ c.loop-bus.sum = omega arith in
    sum_more c.args.roots.now.flags c.args.needs.now.of_bus c.requires c.loop-bus.bus c.loop-bus.sum c.if-has.sum c.has.result c.loop-bus-test.true c.loop-bus.invariant c.has.ensures
    (elim c.if-has.branch [
      | then-has w ↦ w.sum-is ∙ sym (ap (λ b. c.loop-bus.sum + cond b need 0) w.if-has.true)
      | else-has w ↦ w.sum-is ∙ sym (ap (λ b. c.loop-bus.sum + cond b need 0) w.if-has.false ∙ none)
    ])

pub returns-clause-sum : goal.returns-clause-sum
returns-clause-sum c = sum_all c.args.roots.now.flags c.args.needs.now.of_bus c.loop-bus.bus c.loop-bus.sum (omega arith) c.loop-bus.invariant

pub returns-clause-bound : goal.returns-clause-bound
returns-clause-bound c =
    let small = c.loop-bus.invariant.small in
    let end : c.loop-bus.bus ≡ 256 = omega arith in
    omega (arith, small, end)
