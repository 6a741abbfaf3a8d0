use Rattle.settle_laws.proofs.Keeping.Claimed.{part_shown, ends_open, rest_closed}
use Rattle.settle_laws.proofs.keeping_laws.settled_registers_show_places.Goals as goal

pub returns-clause-shows : goal.returns-clause-shows
returns-clause-shows c = λ q s k can f p t is. part_shown q s k can f p is.0 is.1 t is.2

pub returns-clause-opens : goal.returns-clause-opens
returns-clause-opens c = λ q s k can b kind t is. ends_open q s k can b kind is.0 is.1 t is.2

pub returns-clause-closes : goal.returns-clause-closes
returns-clause-closes c = rest_closed
