use Rattle.settle_laws.proofs.StandingKept.{standing_kept}
use Rattle.settle_laws.proofs.GrowingKept.{growing_kept}
use Rattle.settle_laws.proofs.standing_kept_laws.what_stays_is_apart.Goals as goal

pub returns-clause-standing : goal.returns-clause-standing
returns-clause-standing c = standing_kept

pub returns-clause-growing : goal.returns-clause-growing
returns-clause-growing c = growing_kept
