use Rattle.settle_laws.proofs.Keeping.Stopping.{on_its_machine}
use Rattle.settle_laws.proofs.write_laws.settling_settles.Goals as goal

pub returns : goal.returns
returns c = on_its_machine
