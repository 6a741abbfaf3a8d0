use Rattle.pci_here.proofs.Accepted.{all_read}
use Rattle.pci_here.proofs.words.written_lists_are_read.Goals as goal

pub returns : goal.returns
returns c = all_read
