use Rattle.std.proofs.Common.{take}
use Rattle.pci_spec.specs.System.{System}
use Rattle.pci_claims.specs.Values.{code_given_value}
use Rattle.pci_map.specs.Left.{IsTreeOf}
use Rattle.pci_map.proofs.TakerLists.{AreTakersAmong}
use Rattle.pci_map.proofs.takers.find_takers.Given as goal

abbrev pub invariant-loop-function : goal.invariant-loop-function
invariant-loop-function g l =
    (s : System) → IsTreeOf l.outline s → AreTakersAmong (code_given_value l.given) l.outline.roots s (take l.function-index l.function-items) l.takers.items
