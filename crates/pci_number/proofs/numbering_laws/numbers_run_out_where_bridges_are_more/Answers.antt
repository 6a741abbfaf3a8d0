-- Each bridge takes one number, as long as there are any.
use Rattle.pci_number.proofs.Enough.{enough_for_all}
use Rattle.pci_number.proofs.numbering_laws.numbers_run_out_where_bridges_are_more.Goals as goal

pub returns : goal.returns
returns c = record { enough = enough_for_all }
