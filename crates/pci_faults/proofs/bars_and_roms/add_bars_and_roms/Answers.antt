use Rattle.std.proofs.Common.{◌≡◌, subst, arith}
use Rattle.pci_faults.specs.Needed.{AreBarsAdded}
use Rattle.pci_faults.proofs.AllClashing.{IsBelow}
use Rattle.pci_faults.proofs.NeededListing.{no_bus, one_bus_more, all_buses}
use Rattle.pci_faults.proofs.bars_and_roms.add_bars_and_roms.Goals as goal

pub loop-bus-init : goal.loop-bus-init
loop-bus-init g c = no_bus c.args.outline.now c.args.out.now.items

pub loop-bus-preserved : goal.loop-bus-preserved
loop-bus-preserved g c = one_bus_more c.args.outline.now c.loop-bus.bus c.args.out.now.items c.loop-bus.out.items c.add_on.new.out.items c.loop-bus.invariant c.in_ok-add_on.ensures

pub returns : goal.returns
returns g c =
    let all : c.loop-bus.bus ≡ 256 = omega arith in
    all_buses c.args.outline.now c.args.out.now.items c.loop-bus.out.items
    (subst (λ n. AreBarsAdded (IsBelow n) c.args.outline.now c.args.out.now.items c.loop-bus.out.items) all c.loop-bus.invariant)
