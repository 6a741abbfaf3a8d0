use Rattle.pci_dump.proofs.Tails.{zeros_behind}
use Rattle.pci_dump.proofs.tail.last_zeros_into.Goals as goal

pub returns-then-first-lt16-clause-image : goal.returns-then-first-lt16-clause-image
returns-then-first-lt16-clause-image c = λ _. zeros_behind c.first_of_last_zeros-first.result c.args.image.now c.put_last_zeros.new.image c.first_of_last_zeros-first.ensures.behind c.told-image c.put_last_zeros.ensures
