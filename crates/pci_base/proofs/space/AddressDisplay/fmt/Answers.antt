use Rattle.std.proofs.Common.{rules}
use Rattle.pci_spec.proofs.HexTexts.{hex_eight_of_low, hex_sixteen}
use Rattle.pci_base.proofs.space.AddressDisplay.fmt.Goals as goal

pub returns-in-Io-clause-writes : goal.returns-in-Io-clause-writes
returns-in-Io-clause-writes g c = search (rules, hex_eight_of_low)

pub returns-in-Mem-clause-writes : goal.returns-in-Mem-clause-writes
returns-in-Mem-clause-writes g c = search (rules, hex_sixteen)
