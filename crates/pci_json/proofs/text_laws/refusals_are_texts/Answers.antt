use Rattle.pci_json.proofs.Texts.{refusal_has_its_line}
use Rattle.pci_json.proofs.text_laws.refusals_are_texts.Goals as goal

pub returns : goal.returns
returns c = λ text. refusal_has_its_line text
