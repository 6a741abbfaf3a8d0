use Rattle.pci_here.proofs.Parts.{one_part, more_parts}
use Rattle.pci_here.proofs.part.first_part.Goals as goal

pub returns-in-None : goal.returns-in-None
returns-in-None c = one_part c.args.separator c.args.text.now c.in-None.ensures.cases c.requires

pub returns-in-Some : goal.returns-in-Some
returns-in-Some c = more_parts c.args.separator c.args.text.now (c.in-Some.first, c.in-Some.more) c.in-Some.ensures.cases c.requires
