use Rattle.std.proofs.Common.{◌≡◌, ◌-◌, length}
use Rattle.pci_machine.proofs.SizesTaken.{AreRead}
use Rattle.pci_machine.proofs.sizes_reader.read_sizes.Given as goal

abbrev pub invariant-loop-sizes : goal.invariant-loop-sizes
invariant-loop-sizes g l = record {
  read : AreRead (g.S.Source.left l.initial.source) (g.S.Source.left l.source) l.sizes;
  fine : g.S.Source.failures l.source ≡ g.S.Source.failures l.initial.source;
}

abbrev pub decreases-loop-sizes : goal.decreases-loop-sizes
decreases-loop-sizes g l = 4096 - length l.sizes
