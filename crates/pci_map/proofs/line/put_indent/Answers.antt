use Rattle.std.proofs.Common.{◌++◌, ◌∙◌, ap}
use Rattle.pci_map.proofs.Indents.{first_spaces}
use Rattle.pci_map.proofs.line.put_indent.Goals as goal

pub returns-clause-text : goal.returns-clause-text
returns-clause-text c = c.put.ensures.text ∙ ap (λ t. c.args.cells.now.items ++ t) (first_spaces c.args.depth c.requires.depth)
