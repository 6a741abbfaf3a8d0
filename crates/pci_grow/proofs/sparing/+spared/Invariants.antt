use Rattle.pci_grow.proofs.sparing.+spared.Given as goal

abbrev pub decreases-spared : goal.decreases-spared
decreases-spared g l = l.depth
