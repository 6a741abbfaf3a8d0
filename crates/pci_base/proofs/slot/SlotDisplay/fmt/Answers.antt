use Rattle.std.proofs.Common.{rules}
use Rattle.std.proofs.lemmas.Fmt.{hex_byte, hex_one_digit}
use Rattle.pci_base.proofs.slot.SlotDisplay.fmt.Goals as goal

pub returns-clause-writes : goal.returns-clause-writes
returns-clause-writes g c = search (rules, hex_byte, hex_one_digit)
