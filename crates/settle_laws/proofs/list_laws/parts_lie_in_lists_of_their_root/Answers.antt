use Rattle.settle_laws.proofs.RootRanges.{settled_is_listed, standing_is_listed}
use Rattle.settle_laws.proofs.list_laws.parts_lie_in_lists_of_their_root.Goals as goal

pub returns-clause-standing : goal.returns-clause-standing
returns-clause-standing c = standing_is_listed

pub returns-clause-settled : goal.returns-clause-settled
returns-clause-settled c = settled_is_listed
