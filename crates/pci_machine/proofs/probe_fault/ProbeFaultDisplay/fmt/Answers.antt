use Rattle.std.proofs.Common.{rules}
use Rattle.std.proofs.lemmas.Fmt.{hex_byte}
use Rattle.pci_machine.proofs.probe_fault.ProbeFaultDisplay.fmt.Goals as goal

pub returns-in-NoSize-clause-writes : goal.returns-in-NoSize-clause-writes
returns-in-NoSize-clause-writes g c = rw c.in-NoSize.is (search (rules, hex_byte))

pub returns-in-OtherSize-clause-writes : goal.returns-in-OtherSize-clause-writes
returns-in-OtherSize-clause-writes g c = rw c.in-OtherSize.is (search (rules, hex_byte))
