use Rattle.std.proofs.Common.{◌∷◌, length}
use Rattle.pciplan_lists.specs.Joined.{rest_with_comma}
use Rattle.pciplan_lists.specs.ListWords.{IsRangeWord}
use Rattle.pciplan_lists.proofs.Joined.{HasRead}
use Rattle.pciplan_lists.proofs.RangeWords.{without_comma}
use Rattle.pciplan_lists.proofs.list_word.has_ranges.Given as goal

abbrev pub invariant-parts : goal.invariant-parts
invariant-parts l = HasRead IsRangeWord without_comma (44 ∷ l.fn.word) (rest_with_comma l.left)

abbrev pub decreases-parts : goal.decreases-parts
decreases-parts l = length (rest_with_comma l.left)
