use Rattle.pci_spec.specs.System.{System}
use Rattle.settle_spec.specs.Lists.{Request}
use Rattle.pci_base.specs.Space.{space_of}
use Rattle.pci_kept.specs.Boards.{IsTree}
use Rattle.pci_kept.proofs.GoingUp.{IsUp}
use Rattle.pci_kept.proofs.bridges.are_on.Given as goal

abbrev pub invariant-loop-up : goal.invariant-loop-up
invariant-loop-up l = (q : Request) (s : System) → IsTree q s l.records → IsUp s (space_of l.space) l.bus l.at l.up
