use Rattle.pci_model.proofs.power.is_asleep.Goals as goal

pub returns-then-shows_sleep : goal.returns-then-shows_sleep
returns-then-shows_sleep c =
    (λ whole. let none = c.decodes.ensures.0 whole in (none, (c.shows_sleep.ensures _ _ none).0 c.if-shows_sleep.true), λ asleep. c.decodes.ensures.1 asleep.0)
