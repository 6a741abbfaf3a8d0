use Rattle.pciplan_front.specs.Explained.{names_fault}
use Rattle.pciplan_front.proofs.explain.is_named.Goals as goal

pub returns : goal.returns
unfolding names_fault
returns c = rw (← c.number.ensures, ← c.name.ensures) c.is_number_or_name.ensures
