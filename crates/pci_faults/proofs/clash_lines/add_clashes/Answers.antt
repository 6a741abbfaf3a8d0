use Rattle.std.proofs.Common.{◌≡◌, subst, arith}
use Rattle.pci_claims.specs.Values.{code_given_value, told_value}
use Rattle.pci_faults.specs.Clashes.{AreClashesAdded}
use Rattle.pci_faults.proofs.AllClashing.{IsBelow, no_bus, one_bus_more, all_buses}
use Rattle.pci_faults.proofs.clash_lines.add_clashes.Goals as goal

pub loop-bus-init : goal.loop-bus-init
loop-bus-init g c = no_bus (told_value c.args.board.now.told) (code_given_value c.args.board.now.given) c.args.board.now.outline.now c.args.out.now.items

pub loop-bus-preserved : goal.loop-bus-preserved
loop-bus-preserved g c =
    one_bus_more (told_value c.args.board.now.told) (code_given_value c.args.board.now.given) c.args.board.now.outline.now c.loop-bus.bus c.args.out.now.items c.loop-bus.out.items c.add_clashes_on.new.out.items c.loop-bus.invariant c.in_ok-add_clashes_on.ensures

pub returns : goal.returns
returns g c =
    let all : c.loop-bus.bus ≡ 256 = omega arith in
    all_buses (told_value c.args.board.now.told) (code_given_value c.args.board.now.given) c.args.board.now.outline.now c.requires.lawful c.args.out.now.items c.loop-bus.out.items
    (subst (λ n. AreClashesAdded (IsBelow n) (told_value c.args.board.now.told) (code_given_value c.args.board.now.given) c.args.board.now.outline.now c.args.out.now.items c.loop-bus.out.items) all c.loop-bus.invariant)
