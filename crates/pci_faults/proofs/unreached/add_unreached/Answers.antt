use Rattle.std.proofs.Common.{◌≡◌, subst, arith}
use Rattle.pci_spec.specs.Order.{Reach}
use Rattle.pci_faults.specs.Lines.{AreLinesAdded, IsAtBusesBelow}
use Rattle.pci_faults.proofs.Adding.{no_bus, one_bus_more, all_buses}
use Rattle.pci_faults.proofs.unreached.add_unreached.Goals as goal

pub loop-bus-init : goal.loop-bus-init
loop-bus-init g c = no_bus c.args.board.now.outline.now Reach c.args.out.now.items

pub loop-bus-preserved : goal.loop-bus-preserved
loop-bus-preserved g c =
    one_bus_more c.args.board.now.outline.now Reach c.loop-bus.bus c.args.out.now.items c.loop-bus.out.items c.add_unreached_on.new.out.items c.loop-bus.invariant c.in_ok-add_unreached_on.ensures

pub returns : goal.returns
returns g c =
    let all : c.loop-bus.bus ≡ 256 = omega arith in
    all_buses c.args.board.now.outline.now Reach c.args.out.now.items c.loop-bus.out.items
    (subst (λ n. AreLinesAdded (IsAtBusesBelow Reach n) c.args.board.now.outline.now c.args.out.now.items c.loop-bus.out.items) all c.loop-bus.invariant)
