use Rattle.std.proofs.Common.{rules}
use Rattle.pci_here.proofs.Texts.{domain_written}
use Rattle.pci_here.proofs.place.PlaceDisplay.fmt.Goals as goal

pub returns-clause-writes : goal.returns-clause-writes
returns-clause-writes g c = search (rules, domain_written)
