use Rattle.pci_picture.proofs.BadgeWords.{ShowUpTo}
use Rattle.pci_picture.proofs.tree.badges_of.Given as goal

abbrev pub invariant-loop-badge : goal.invariant-loop-badge
invariant-loop-badge g l = ShowUpTo l.badge-items l.badge-index l.before l.words.bytes.items
