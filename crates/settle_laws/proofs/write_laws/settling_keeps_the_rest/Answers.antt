use Rattle.settle_laws.proofs.KeptAside.{kept_aside}
use Rattle.settle_laws.proofs.write_laws.settling_keeps_the_rest.Goals as goal

pub returns : goal.returns
returns c = kept_aside
