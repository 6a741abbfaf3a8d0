use Rattle.settle_laws.proofs.Keeping.AgainKept.{all_stand}
use Rattle.settle_laws.proofs.keeping_laws.settled_parts_stand.Goals as goal

pub returns : goal.returns
returns c = all_stand
