use Rattle.pci_number.proofs.Left.{one_root_is_numbered, alone_has_no_bus_fault}
use Rattle.pci_number.proofs.board_laws.numbered_root_has_no_bus_fault.Goals as goal

pub returns : goal.returns
returns c = record { one = one_root_is_numbered; alone = alone_has_no_bus_fault }
