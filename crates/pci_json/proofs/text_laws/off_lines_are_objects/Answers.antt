use Rattle.pci_json.proofs.Texts.{each_off_is_one_object}
use Rattle.pci_json.proofs.text_laws.off_lines_are_objects.Goals as goal

pub returns : goal.returns
returns c = λ lines. each_off_is_one_object lines
