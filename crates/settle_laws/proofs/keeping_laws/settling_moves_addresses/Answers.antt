use Rattle.settle_laws.proofs.Keeping.Moves.{all_move, new_profile}
use Rattle.settle_laws.proofs.keeping_laws.settling_moves_addresses.Goals as goal

pub returns-clause-moved : goal.returns-clause-moved
returns-clause-moved c = all_move

pub returns-clause-profile : goal.returns-clause-profile
returns-clause-profile c = new_profile
