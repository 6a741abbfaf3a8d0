use Rattle.pci_grow.proofs.Neighbours.{before_ends, nearest_below, nearest_above}
use Rattle.pci_grow.proofs.among.with_neighbours.Goals as goal

pub returns-clause-apart : goal.returns-clause-apart
returns-clause-apart c = λ apart. before_ends _ _ _ c.requires.index apart _ c.before-2.ensures.some

pub returns-clause-below : goal.returns-clause-below
returns-clause-below c = λ beside apart are. nearest_below _ _ _ c.requires.index apart beside are _ c.before-2.ensures.some c.before-2.ensures.none

pub returns-clause-above : goal.returns-clause-above
returns-clause-above c = λ beside apart are. nearest_above _ _ _ c.requires.index apart beside are _ c.behind.ensures.some c.behind.ensures.none
