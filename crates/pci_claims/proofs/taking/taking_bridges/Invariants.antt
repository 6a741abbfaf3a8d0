use Rattle.std.proofs.Common.{take}
use Rattle.pci_spec.specs.System.{System}
use Rattle.pci_tree.specs.Trees.{HasTree}
use Rattle.judge_spec.specs.Unclaimed.{AreTaking}
use Rattle.pci_claims.specs.Values.{code_given_value, told_value}
use Rattle.pci_claims.proofs.taking.taking_bridges.Given as goal

abbrev pub invariant-loop-slot : goal.invariant-loop-slot
invariant-loop-slot g l = (s : System) → HasTree l.board.outline.now s → AreTaking (told_value l.board.told) (code_given_value l.board.given) s (take l.slot-index l.slots) l.out.items
