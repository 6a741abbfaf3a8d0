use Rattle.std.proofs.Common.{◌∙◌}
use Rattle.pci_tree.proofs.Passing.{met}
use Rattle.pci_tree.proofs.forwarded.is_met.Goals as goal

pub returns : goal.returns
returns c = c.is_some.ensures ∙ met c.args.r c.args.w c.meet.result c.meet.ensures
