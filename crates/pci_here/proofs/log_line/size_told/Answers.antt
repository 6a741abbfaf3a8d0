use Rattle.pci_here.proofs.LogForms.{text_of_memory}
use Rattle.pci_here.proofs.log_line.size_told.Goals as goal

pub returns-in-Some : goal.returns-in-Some
returns-in-Some c = text_of_memory c.args.text.now c.in-Some.rest c.in-Some.ensures.cases c.memory_size.result c.memory_size.ensures
