use Rattle.pci_grow.proofs.ending.+end_by.Given as goal

abbrev pub decreases-end_by : goal.decreases-end_by
decreases-end_by g l = l.depth
