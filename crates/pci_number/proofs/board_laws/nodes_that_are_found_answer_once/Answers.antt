use Rattle.pci_number.proofs.Once.{found_answers_once}
use Rattle.pci_number.proofs.board_laws.nodes_that_are_found_answer_once.Goals as goal

pub returns : goal.returns
returns c = record { once = found_answers_once }
