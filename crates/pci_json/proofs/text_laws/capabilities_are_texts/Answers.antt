use Rattle.pci_json.proofs.Texts.{each_capability_has_its_text}
use Rattle.pci_json.proofs.text_laws.capabilities_are_texts.Goals as goal

pub returns : goal.returns
returns c = λ lines. each_capability_has_its_text lines
