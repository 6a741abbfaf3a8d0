use Rattle.pci_claims.specs.Values.{code_given_value}
use Rattle.pci_map.proofs.Rows.{AreRowsBelow}
use Rattle.pci_map.proofs.above.sent_above.Given as goal

abbrev pub invariant-loop-bus : goal.invariant-loop-bus
invariant-loop-bus g l = AreRowsBelow (code_given_value l.given) l.roots_above l.bus l.above.items
