use Rattle.settle_laws.proofs.Keeping.Few.{few_each}
use Rattle.settle_laws.proofs.Keeping.Stopping.{never_off}
use Rattle.settle_laws.proofs.keeping_laws.settling_writes_little.Goals as goal

pub returns-clause-few : goal.returns-clause-few
returns-clause-few c = few_each

pub returns-clause-on : goal.returns-clause-on
returns-clause-on c = never_off
