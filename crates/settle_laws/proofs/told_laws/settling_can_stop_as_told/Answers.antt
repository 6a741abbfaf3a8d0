use Rattle.settle_laws.proofs.Told.Settling.{settling_standing_can_stop, settling_growing_can_stop, settling_sparing_can_stop}
use Rattle.settle_laws.proofs.told_laws.settling_can_stop_as_told.Goals as goal

pub returns-clause-standing : goal.returns-clause-standing
returns-clause-standing c = settling_standing_can_stop

pub returns-clause-growing : goal.returns-clause-growing
returns-clause-growing c = settling_growing_can_stop

pub returns-clause-sparing : goal.returns-clause-sparing
returns-clause-sparing c = settling_sparing_can_stop
