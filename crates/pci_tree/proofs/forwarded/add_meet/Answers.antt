use Rattle.pci_tree.proofs.Passing.{push_meet}
use Rattle.pci_tree.proofs.forwarded.add_meet.Goals as goal

pub returns-in_ok-push : goal.returns-in_ok-push
returns-in_ok-push g c = push_meet _ _ c.args.r c.args.w c.in-Some.m c.requires.canonical c.requires.below c.in_ok-push.ensures.items c.in-Some.ensures.0 c.in-Some.ensures.1
