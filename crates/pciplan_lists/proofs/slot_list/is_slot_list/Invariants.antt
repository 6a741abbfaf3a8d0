use Rattle.std.proofs.Common.{◌∷◌, length}
use Rattle.pciplan_lists.specs.Joined.{rest_with_comma}
use Rattle.pciplan_lists.proofs.RisingSlots.{HasRisen}
use Rattle.pciplan_lists.proofs.slot_list.is_slot_list.Given as goal

abbrev pub invariant-parts : goal.invariant-parts
invariant-parts l = HasRisen (44 ∷ l.fn.word) (rest_with_comma l.left) l.last

abbrev pub decreases-parts : goal.decreases-parts
decreases-parts l = length (rest_with_comma l.left)
