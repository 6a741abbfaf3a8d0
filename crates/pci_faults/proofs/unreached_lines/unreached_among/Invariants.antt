use Rattle.std.proofs.Common.{take}
use Rattle.pci_claims.specs.Values.{code_given_value}
use Rattle.pci_faults.specs.UnreachedLines.{AreUnreachedLines}
use Rattle.pci_faults.proofs.unreached_lines.unreached_among.Given as goal

abbrev pub invariant-loop-one : goal.invariant-loop-one
invariant-loop-one g l = AreUnreachedLines (code_given_value l.given) l.outline (take l.one-index l.list) l.out.items
