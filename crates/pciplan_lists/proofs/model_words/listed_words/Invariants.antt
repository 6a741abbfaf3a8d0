use Rattle.std.proofs.Common.{◌∷◌, length}
use Rattle.pci_model.specs.WordsValue.{words_value}
use Rattle.pciplan_lists.specs.Joined.{rest_with_comma}
use Rattle.pciplan_lists.proofs.ModelWords.{IsTakenTo}
use Rattle.pciplan_lists.proofs.model_words.listed_words.Given as goal

abbrev pub invariant-parts : goal.invariant-parts
invariant-parts l = IsTakenTo (44 ∷ l.fn.list) (rest_with_comma l.left) (words_value l.words)

abbrev pub decreases-parts : goal.decreases-parts
decreases-parts l = length (rest_with_comma l.left)
