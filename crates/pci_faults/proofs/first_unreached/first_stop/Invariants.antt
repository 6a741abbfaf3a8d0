use Rattle.std.proofs.Common.{take}
use Rattle.std.specs.List.{All}
use Rattle.pci_base.specs.WindowKinds.{kind_value}
use Rattle.pci_claims.specs.Values.{code_given_value}
use Rattle.pci_faults.specs.Stopped.{PassesSent}
use Rattle.pci_faults.proofs.first_unreached.first_stop.Given as goal

abbrev pub invariant-loop-slot : goal.invariant-loop-slot
invariant-loop-slot g l = All (PassesSent (code_given_value l.given) (kind_value l.kind) l.way.records.now l.way.root l.range) (take l.slot-index l.way.bridges.now)
