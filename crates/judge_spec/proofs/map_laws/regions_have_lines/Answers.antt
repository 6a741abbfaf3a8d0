use Rattle.judge_spec.proofs.Having.{of_region, not_missed}
use Rattle.judge_spec.proofs.map_laws.regions_have_lines.Goals as goal

pub returns-clause-of : goal.returns-clause-of
returns-clause-of c = λ told given roots s m q is has. of_region told given roots s m is q has

pub returns-clause-each : goal.returns-clause-each
returns-clause-each c = λ told given roots s m q system lawful is of missed. not_missed told given roots s m is q system lawful of missed
