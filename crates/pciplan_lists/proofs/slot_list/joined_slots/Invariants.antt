use Rattle.std.proofs.Common.{◌∷◌, length}
use Rattle.pciplan_lists.specs.Joined.{rest_with_comma}
use Rattle.pciplan_lists.specs.SlotWords.{IsSlotWord}
use Rattle.pciplan_lists.proofs.Joined.{IsRead}
use Rattle.pciplan_lists.proofs.SlotWords.{slot_without_comma}
use Rattle.pciplan_lists.proofs.slot_list.joined_slots.Given as goal

abbrev pub invariant-parts : goal.invariant-parts
invariant-parts g l = IsRead IsSlotWord slot_without_comma (44 ∷ l.fn.word) (rest_with_comma l.left) l.slots.items

abbrev pub decreases-parts : goal.decreases-parts
decreases-parts g l = length (rest_with_comma l.left)
