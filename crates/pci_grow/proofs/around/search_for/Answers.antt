use Rattle.pci_grow.proofs.around.search_for.Goals as goal

pub returns-in_default-clause-search : goal.returns-in_default-clause-search
returns-in_default-clause-search c = λ taken is. c.begin.ensures.search taken
