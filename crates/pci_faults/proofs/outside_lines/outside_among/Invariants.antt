use Rattle.std.proofs.Common.{take}
use Rattle.pci_claims.specs.Values.{code_given_value}
use Rattle.pci_faults.specs.OutsideLines.{AreOutsideLines}
use Rattle.pci_faults.proofs.outside_lines.outside_among.Given as goal

abbrev pub invariant-loop-one : goal.invariant-loop-one
invariant-loop-one g l = AreOutsideLines (code_given_value l.given) l.outline (take l.one-index l.list) l.out.items
