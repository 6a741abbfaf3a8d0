use Rattle.pci_claims.specs.Values.{code_given_value, told_value}
use Rattle.pci_faults.specs.Clashes.{AreClashesAdded}
use Rattle.pci_faults.proofs.AllClashing.{IsBelow}
use Rattle.pci_faults.proofs.clash_lines.add_clashes.Given as goal

abbrev pub invariant-loop-bus : goal.invariant-loop-bus
invariant-loop-bus g l = AreClashesAdded (IsBelow l.bus) (told_value l.board.told) (code_given_value l.board.given) l.board.outline.now l.fn.out.items l.out.items
