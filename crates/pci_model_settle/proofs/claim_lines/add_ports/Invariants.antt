use Rattle.pci_model_settle.specs.ClaimLines.{port_lines}
use Rattle.pci_model_settle.specs.LineValues.{AddsClaims}
use Rattle.pci_model_settle.proofs.claim_lines.add_ports.Given as goal

abbrev pub invariant-loop-kb : goal.invariant-loop-kb
invariant-loop-kb g l = AddsClaims l.initial.out.items l.out.items (port_lines l.bridge.slot l.low l.high l.kb)
