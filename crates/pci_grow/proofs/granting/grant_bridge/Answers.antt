use Rattle.pci_grow.proofs.granting.grant_bridge.Goals as goal

pub returns-clause-granted : goal.returns-clause-granted
returns-clause-granted gg c = λ q s spare g are was.
    c.in_ok-grant_window-3.ensures.granted q s spare _ are (c.in_ok-grant_window-2.ensures.granted q s spare _ are (c.in_ok-grant_window.ensures.granted q s spare g are was))
