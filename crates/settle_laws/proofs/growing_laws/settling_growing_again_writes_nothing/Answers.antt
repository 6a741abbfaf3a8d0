use Rattle.settle_laws.proofs.SettlingEnds.{settling_growing_again_writes_nothing as law}
use Rattle.settle_laws.proofs.growing_laws.settling_growing_again_writes_nothing.Goals as goal

pub returns : goal.returns
returns c = law
