use Rattle.std.proofs.Common.{◌≡◌, ◌∷◌, ◌++◌, sym, ◌∙◌, ap, subst}
use Rattle.pciplan_lists.specs.Joined.{rest_with_comma}
use Rattle.pciplan_lists.specs.ListWords.{IsRangeWord}
use Rattle.pciplan_lists.proofs.Joined.{IsRead, read_bad, read_more, read_all, read_only}
use Rattle.pciplan_lists.proofs.RangeWords.{without_comma}
use Rattle.pciplan_lists.proofs.list_word.joined_ranges.Goals as goal

pub returns-in_default-range_of_word-clause-only : goal.returns-in_default-range_of_word-clause-only
returns-in_default-range_of_word-clause-only g c = λ list is.
    let text : rest_with_comma c.parts.left ≡ 44 ∷ (c.first_of.result.0.now ++ rest_with_comma c.first_of.result.1)
    = ap rest_with_comma c.in-Some.is ∙ ap (λ t. 44 ∷ t) c.first_of.ensures.parts in
    read_bad IsRangeWord without_comma (44 ∷ c.args.word.now) (rest_with_comma c.parts.left) c.first_of.result.0.now c.first_of.result.1 c.parts.list.items c.parts.invariant
    text c.first_of.ensures.first (λ r range. let none = c.in_default-range_of_word.ensures.only r range in absurd (cc none)) list is

pub parts-preserved : goal.parts-preserved
parts-preserved g c =
    let text : rest_with_comma c.parts.left ≡ 44 ∷ (c.first_of.result.0.now ++ rest_with_comma c.first_of.result.1)
    = ap rest_with_comma c.in-Some.is ∙ ap (λ t. 44 ∷ t) c.first_of.ensures.parts in
    subst (λ l. IsRead IsRangeWord without_comma (44 ∷ c.args.word.now) (rest_with_comma c.first_of.result.1) l) (sym c.in_ok-push.ensures.items)
    (read_more IsRangeWord without_comma (44 ∷ c.args.word.now) (rest_with_comma c.parts.left) c.first_of.result.0.now c.first_of.result.1 c.parts.list.items
    c.in-Some-range_of_word.range c.parts.invariant text c.first_of.ensures.first c.in-Some-range_of_word.ensures.word
    (λ q range. let found = c.in-Some-range_of_word.ensures.only q range in cc found))

pub returns-clause-word : goal.returns-clause-word
returns-clause-word g c =
    read_all IsRangeWord without_comma c.args.word.now c.parts.list.items
    (subst (λ t. IsRead IsRangeWord without_comma (44 ∷ c.args.word.now) (rest_with_comma t) c.parts.list.items) c.in_default.is c.parts.invariant)

pub returns-clause-only : goal.returns-clause-only
returns-clause-only g c = λ list is.
    read_only IsRangeWord without_comma c.args.word.now c.parts.list.items
    (subst (λ t. IsRead IsRangeWord without_comma (44 ∷ c.args.word.now) (rest_with_comma t) c.parts.list.items) c.in_default.is c.parts.invariant) list is
