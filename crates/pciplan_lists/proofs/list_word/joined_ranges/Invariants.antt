use Rattle.std.proofs.Common.{◌∷◌, length}
use Rattle.pciplan_lists.specs.Joined.{rest_with_comma}
use Rattle.pciplan_lists.specs.ListWords.{IsRangeWord}
use Rattle.pciplan_lists.proofs.Joined.{IsRead}
use Rattle.pciplan_lists.proofs.RangeWords.{without_comma}
use Rattle.pciplan_lists.proofs.list_word.joined_ranges.Given as goal

abbrev pub invariant-parts : goal.invariant-parts
invariant-parts g l = IsRead IsRangeWord without_comma (44 ∷ l.fn.word) (rest_with_comma l.left) l.list.items

abbrev pub decreases-parts : goal.decreases-parts
decreases-parts g l = length (rest_with_comma l.left)
