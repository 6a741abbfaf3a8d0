use Rattle.pci_json.proofs.Cuts.{behind_here, behind_one}
use Rattle.pci_json.proofs.lines.split_word.Goals as goal

pub returns-clause-first : goal.returns-clause-first
returns-clause-first c = cc (c.split_at_first.ensures.before, behind_here c.args.content.now)

pub returns-clause-rest : goal.returns-clause-rest
returns-clause-rest c = cc (c.split_at_first.ensures.after, behind_one c.args.content.now)
