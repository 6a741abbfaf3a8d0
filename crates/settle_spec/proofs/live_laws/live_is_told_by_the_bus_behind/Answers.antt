use Rattle.settle_spec.proofs.Live.{live_by_bus}
use Rattle.settle_spec.proofs.live_laws.live_is_told_by_the_bus_behind.Goals as goal

pub returns : goal.returns
returns c = λ q s k space f system nested listed. live_by_bus q s k space system nested f listed
