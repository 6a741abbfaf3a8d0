use Rattle.settle_spec.specs.Items.{spare_of}
use Rattle.settle_laws.proofs.Wishing.Alike.{granted_alike}
use Rattle.settle_laws.proofs.Wishing.Granted.{all_granted}
use Rattle.settle_laws.proofs.sparing_laws.granted_wishes_can_be_settled.Goals as goal

pub returns-clause-alike : goal.returns-clause-alike
returns-clause-alike c = λ q s asked k. granted_alike q s (spare_of asked) k

pub returns-clause-can : goal.returns-clause-can
returns-clause-can c = λ q s asked k can. (all_granted q asked s k can).can
