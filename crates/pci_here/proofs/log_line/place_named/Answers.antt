use Rattle.pci_here.proofs.LogWords.{name_only}
use Rattle.pci_here.proofs.log_line.place_named.Goals as goal

pub returns-clause-only : goal.returns-clause-only
returns-clause-only c = name_only c.args.word.now c.in_ok-name.name c.place_of.result c.in_ok-name.ensures.cases c.place_of.ensures.only
