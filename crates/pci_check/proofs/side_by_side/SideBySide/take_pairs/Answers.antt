use Rattle.pci_check.proofs.side_by_side.SideBySide.take_pairs.Goals as goal

pub take_pair-requires-clause-beside : goal.take_pair-requires-clause-beside
take_pair-requires-clause-beside g c = let before = c.requires.beside in (before.0, before.1, c.loop.invariant.each before.0 before.1 before.2)

pub returns-clause-pairs : goal.returns-clause-pairs
returns-clause-pairs g c texts buses s = (rw c.if-branch.false at c.in_ok-take_pair.ensures.pair) texts buses (c.loop.invariant.each texts buses s)
