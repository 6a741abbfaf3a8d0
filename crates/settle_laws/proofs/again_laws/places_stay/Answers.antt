use Rattle.settle_laws.proofs.AllStand.{all_stay}
use Rattle.settle_laws.proofs.Keeping.AgainEnds.{can_again, ends_stay}
use Rattle.settle_laws.proofs.Keeping.AgainKept.{all_stand}
use Rattle.settle_laws.proofs.Keeping.Moves.{new_system, new_nested}
use Rattle.settle_spec.specs.Keeping.Registers.{settled}
use Rattle.settle_laws.proofs.again_laws.places_stay.Goals as goal

pub returns-clause-again : goal.returns-clause-again
returns-clause-again c = can_again

pub returns-clause-stay : goal.returns-clause-stay
returns-clause-stay c = λ q untold s k can kept r listed. all_stay q (settled q s k) (new_system q s k can) (new_nested q s k can) (all_stand q untold s k can kept) r listed

pub returns-clause-same : goal.returns-clause-same
returns-clause-same c = ends_stay
