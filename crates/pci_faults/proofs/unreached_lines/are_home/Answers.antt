use Rattle.std.proofs.Common.{below_more, arith}
use Rattle.pci_check.specs.Stops.{AreHomeInEach}
use Rattle.pci_check.proofs.Homes.{all_home}
use Rattle.pci_faults.proofs.unreached_lines.are_home.Goals as goal

pub loop-bus-preserved : goal.loop-bus-preserved
loop-bus-preserved g c = below_more (AreHomeInEach c.args.outline.now) c.loop-bus.bus c.loop-bus.invariant (rw c.in_default.is at c.first_unreached.ensures)

pub returns : goal.returns
returns g c home = all_home c.args.outline.now c.args.reached.now c.requires.reached c.requires.nested (λ b less. c.loop-bus.invariant b (omega arith))
