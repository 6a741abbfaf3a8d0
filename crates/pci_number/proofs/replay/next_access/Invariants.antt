use Rattle.pci_number.proofs.replay.next_access.Given as goal

abbrev pub ghosts-stepped : goal.ghosts-stepped
ghosts-stepped g a = record { world = g.world' }
