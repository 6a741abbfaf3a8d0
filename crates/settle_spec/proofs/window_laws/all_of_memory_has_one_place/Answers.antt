use Rattle.settle_spec.proofs.AllOfMemory.{all_needs_all}
use Rattle.settle_spec.proofs.window_laws.all_of_memory_has_one_place.Goals as goal

pub returns : goal.returns
returns c = record { all = λ r taken e a small large place. all_needs_all r taken e a small large place }
