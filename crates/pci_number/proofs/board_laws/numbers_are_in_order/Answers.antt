use Rattle.pci_number.proofs.Left.{none_free_in_order}
use Rattle.pci_number.proofs.Once.{none_free_run_out}
use Rattle.pci_number.proofs.board_laws.numbers_are_in_order.Goals as goal

pub returns : goal.returns
returns c = record { order = none_free_in_order; run_out = none_free_run_out }
