use Rattle.settle_spec.proofs.InTurn.{turn_same, turn_order, turn_only, turn_free}
use Rattle.settle_spec.proofs.placing_laws.items_in_turn_are_ordered.Goals as goal

pub returns : goal.returns
returns c = record { ordered = λ items rise. (turn_same items, turn_order items rise); only = turn_only; free = turn_free }
