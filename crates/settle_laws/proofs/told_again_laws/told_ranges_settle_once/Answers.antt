use Rattle.settle_laws.proofs.Told.AgainLaws.{told_parts_stand, told_is_settled_already, told_again_writes_nothing, told_growing_again_writes_nothing, held_growing_again_writes_nothing}
use Rattle.settle_laws.proofs.told_again_laws.told_ranges_settle_once.Goals as goal

pub returns-clause-parts : goal.returns-clause-parts
returns-clause-parts c = told_parts_stand

pub returns-clause-again : goal.returns-clause-again
returns-clause-again c = told_again_writes_nothing

pub returns-clause-whole : goal.returns-clause-whole
returns-clause-whole c = told_growing_again_writes_nothing

pub returns-clause-already : goal.returns-clause-already
returns-clause-already c = told_is_settled_already

pub returns-clause-held : goal.returns-clause-held
returns-clause-held c = held_growing_again_writes_nothing
