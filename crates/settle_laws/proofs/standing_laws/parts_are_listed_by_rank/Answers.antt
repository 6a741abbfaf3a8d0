use Rattle.settle_laws.proofs.Ranks.{ranks_rise}
use Rattle.settle_laws.proofs.standing_laws.parts_are_listed_by_rank.Goals as goal

pub returns : goal.returns
returns c = λ q s system. ranks_rise q s system
