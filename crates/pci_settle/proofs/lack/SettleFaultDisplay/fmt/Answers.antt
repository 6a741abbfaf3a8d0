use Rattle.std.proofs.Common.{rules}
use Rattle.std.proofs.lemmas.Fmt.{hex_byte}
use Rattle.std.proofs.lemmas.List.{append_assoc}
use Rattle.pci_settle.proofs.lack.SettleFaultDisplay.fmt.Goals as goal

pub returns-in-Assumed-clause-writes : goal.returns-in-Assumed-clause-writes
returns-in-Assumed-clause-writes g c = search (rules, hex_byte, append_assoc)

pub returns-in-NoRoom-clause-writes : goal.returns-in-NoRoom-clause-writes
returns-in-NoRoom-clause-writes g c = search (rules, append_assoc)

pub returns-in-TooLarge-clause-writes : goal.returns-in-TooLarge-clause-writes
returns-in-TooLarge-clause-writes g c = search (rules, append_assoc)

pub returns-in-Fixed-clause-writes : goal.returns-in-Fixed-clause-writes
returns-in-Fixed-clause-writes g c = search (rules, hex_byte, append_assoc)
