use Rattle.pci_dump.proofs.Lines.{read_there}
use Rattle.pci_dump.proofs.rows.read_row.Goals as goal

pub returns-clause-yes : goal.returns-clause-yes
returns-clause-yes c = λ yes.
    let read = c.row_into.ensures.yes yes in
    read_there c.args.row c.from-at.result c.args.line.now c.args.image.now c.row_into.new.values c.requires.row c.from-at.ensures c.told-image c.row_into.ensures.long read.0 read.1
