use Rattle.std.proofs.Common.{rules}
use Rattle.std.proofs.lemmas.Fmt.{hex_byte}
use Rattle.pci_plan.proofs.apply_fault.ApplyFaultDisplay.fmt.Goals as goal

pub returns-in-Changed-clause-writes : goal.returns-in-Changed-clause-writes
returns-in-Changed-clause-writes g c = search (rules, hex_byte)
