use Rattle.pci_json.proofs.Texts.{each_fault_has_its_line}
use Rattle.pci_json.proofs.text_laws.fault_lines_are_texts.Goals as goal

pub returns : goal.returns
returns c = λ lines. each_fault_has_its_line lines
