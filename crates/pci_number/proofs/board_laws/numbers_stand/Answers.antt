use Rattle.pci_number.proofs.Again.{numbers_stand}
use Rattle.pci_number.proofs.board_laws.numbers_stand.Goals as goal

pub returns : goal.returns
returns c = record { stand = numbers_stand }
