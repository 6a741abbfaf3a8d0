use Rattle.pci_json.specs.Lines.{behind_words}
use Rattle.pci_json.proofs.Cuts.{behind_here}
use Rattle.pci_json.proofs.lines.is_word.Goals as goal

pub returns : goal.returns
returns c = cc (c.is_first_word.ensures, c.behind.ensures, behind_here (behind_words c.args.n c.args.content.now))
