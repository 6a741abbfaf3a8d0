use Rattle.std.proofs.Common.{rules}
use Rattle.pci_here.proofs.Texts.{domain_written}
use Rattle.pciplan_front.proofs.here.push_heading.Goals as goal

pub returns : goal.returns
returns c = search (rules, domain_written)
