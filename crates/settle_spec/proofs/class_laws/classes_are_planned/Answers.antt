use Rattle.settle_spec.proofs.Classes.{class_planned}
use Rattle.settle_spec.proofs.class_laws.classes_are_planned.Goals as goal

pub returns : goal.returns
returns c = record { planned = λ q s f p anew some. class_planned q s f anew some p }
