use Rattle.std.proofs.Common.{◌∷◌, ◌∙◌, ap, subst}
use Rattle.std.specs.Prelude.{option_map}
use Rattle.pci_model.specs.WordsValue.{words_value}
use Rattle.pciplan_lists.specs.Joined.{rest_with_comma}
use Rattle.pciplan_lists.specs.NameWords.{name_value}
use Rattle.pciplan_lists.proofs.ModelWords.{IsTakenTo, no_name, too_much, taken_more, words_are, words_only}
use Rattle.pciplan_lists.proofs.model_words.listed_words.Goals as goal

pub returns-in_default-name_of-clause-word : goal.returns-in_default-name_of-clause-word
returns-in_default-name_of-clause-word c = λ words list.
    no_name c.args.list.now (rest_with_comma c.parts.left) c.first_of.result.0.now c.first_of.result.1 (option_map name_value c.name_of.result) (words_value c.parts.words)
    c.parts.invariant (ap rest_with_comma c.in-Some.is ∙ ap (λ t. 44 ∷ t) c.first_of.ensures.parts) c.first_of.ensures.first c.name_of.ensures
    (ap (λ o. option_map name_value o) c.in_default-name_of.is) words list

pub returns-in_default-name_of-clause-only : goal.returns-in_default-name_of-clause-only
returns-in_default-name_of-clause-only c = λ words list. absurd (returns-in_default-name_of-clause-word c words list)

pub returns-then-not-adds-clause-word : goal.returns-then-not-adds-clause-word
returns-then-not-adds-clause-word c = λ words list.
    too_much c.args.list.now (rest_with_comma c.parts.left) c.first_of.result.0.now c.first_of.result.1 (option_map name_value c.name_of.result) (name_value c.in-Some-name_of.name) (words_value c.parts.words)
    c.parts.invariant (ap rest_with_comma c.in-Some.is ∙ ap (λ t. 44 ∷ t) c.first_of.ensures.parts) c.first_of.ensures.first c.name_of.ensures
    (ap (λ o. option_map name_value o) c.in-Some-name_of.is) (c.adds.ensures.much c.if-not-adds.true) words list

pub returns-then-not-adds-clause-only : goal.returns-then-not-adds-clause-only
returns-then-not-adds-clause-only c = λ words list. absurd (returns-then-not-adds-clause-word c words list)

pub parts-preserved : goal.parts-preserved
parts-preserved c =
    taken_more (44 ∷ c.args.list.now) (rest_with_comma c.parts.left) c.first_of.result.0.now c.first_of.result.1 (option_map name_value c.name_of.result) (name_value c.in-Some-name_of.name)
    (words_value c.parts.words) (words_value c.adds.new.words)
    c.parts.invariant (ap rest_with_comma c.in-Some.is ∙ ap (λ t. 44 ∷ t) c.first_of.ensures.parts) c.first_of.ensures.first c.name_of.ensures
    (ap (λ o. option_map name_value o) c.in-Some-name_of.is) (c.adds.ensures.added c.if-not-adds.false)

pub returns-clause-word : goal.returns-clause-word
returns-clause-word c =
    words_are c.args.list.now (words_value c.parts.words)
    (subst (λ t. IsTakenTo (44 ∷ c.args.list.now) (rest_with_comma t) (words_value c.parts.words)) c.in_default.is c.parts.invariant)

pub returns-clause-only : goal.returns-clause-only
returns-clause-only c = λ words list.
    words_only c.args.list.now (words_value c.parts.words)
    (subst (λ t. IsTakenTo (44 ∷ c.args.list.now) (rest_with_comma t) (words_value c.parts.words)) c.in_default.is c.parts.invariant) words list
