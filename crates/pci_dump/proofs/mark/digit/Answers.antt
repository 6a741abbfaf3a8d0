use Rattle.pci_dump.proofs.Marks.{digit_by}
use Rattle.pci_dump.proofs.mark.digit.Goals as goal

pub returns-clause-digit : goal.returns-clause-digit
returns-clause-digit c = digit_by c.digit_value.result c.args.byte c.digit_value.ensures.some c.digit_value.ensures.found
