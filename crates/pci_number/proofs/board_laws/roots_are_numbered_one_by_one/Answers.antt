-- Each call leaves the other roots as they were.
use Rattle.pci_number.proofs.Calls.{roots_get_numbers, roots_have_no_bus_fault, roots_get_single, roots_answer_once}
use Rattle.pci_number.proofs.board_laws.roots_are_numbered_one_by_one.Goals as goal

pub returns : goal.returns
returns c = record { numbers = roots_get_numbers; no_fault = roots_have_no_bus_fault; single = roots_get_single; once = roots_answer_once }
