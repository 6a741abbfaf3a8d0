use Rattle.pci_claims.specs.Legacy.{ArePorts}
use Rattle.pci_claims.proofs.legacy.ports.Given as goal

abbrev pub invariant-loop-block : goal.invariant-loop-block
invariant-loop-block g l = ArePorts l.block l.low l.high l.out.items
