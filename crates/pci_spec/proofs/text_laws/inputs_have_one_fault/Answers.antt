use Rattle.pci_spec.proofs.Beginnings.{text_is_good, beginnings_are_good}
use Rattle.pci_spec.proofs.WholeInputs.{input_is_text_or_has_fault}
use Rattle.pci_spec.proofs.TextLaws.{input_has_one_fault, text_has_no_fault}
use Rattle.pci_spec.proofs.BlockLaws.{fault_is_in_its_line}
use Rattle.pci_spec.proofs.text_laws.inputs_have_one_fault.Goals as goal

pub returns-clause-good : goal.returns-clause-good
returns-clause-good c = text_is_good

pub returns-clause-beginnings : goal.returns-clause-beginnings
returns-clause-beginnings c = beginnings_are_good

pub returns-clause-some : goal.returns-clause-some
returns-clause-some c = input_is_text_or_has_fault

pub returns-clause-one : goal.returns-clause-one
returns-clause-one c = input_has_one_fault

pub returns-clause-none : goal.returns-clause-none
returns-clause-none c = text_has_no_fault

pub returns-clause-line : goal.returns-clause-line
returns-clause-line c = fault_is_in_its_line
