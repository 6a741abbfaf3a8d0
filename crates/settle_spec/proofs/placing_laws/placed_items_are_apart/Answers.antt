use Rattle.settle_spec.proofs.Placed.{are_placed}
use Rattle.settle_spec.proofs.placing_laws.placed_items_are_apart.Goals as goal

pub returns : goal.returns
returns c = record { apart = are_placed }
