use Rattle.pci_json.specs.Lines.{behind_words}
use Rattle.pci_json.proofs.Cuts.{behind_here, behind_one, behind_there}
use Rattle.pci_json.proofs.lines.split_second.Goals as goal

pub returns-clause-first : goal.returns-clause-first
returns-clause-first c =
    let content = c.args.content.now in
    cc (c.split_word.ensures.first, c.behind_first.ensures, behind_one content, behind_here (behind_words 1 content))

pub returns-clause-rest : goal.returns-clause-rest
returns-clause-rest c =
    let content = c.args.content.now in
    cc (c.split_word.ensures.rest, c.behind_first.ensures, behind_one content, behind_there 1 1 content)
