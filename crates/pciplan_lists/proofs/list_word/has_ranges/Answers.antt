use Rattle.std.proofs.Common.{◌≡◌, ◌∷◌, ◌++◌, [], ◌∙◌, ap, refl, subst}
use Rattle.std.proofs.lemmas.Bool.{false≢true}
use Rattle.pciplan_lists.specs.Joined.{rest_with_comma}
use Rattle.pciplan_lists.specs.ListWords.{IsRangeWord}
use Rattle.pciplan_lists.proofs.Joined.{IsRead, read_bad, read_more, read_all}
use Rattle.pciplan_lists.proofs.ListWords.{some_ranges}
use Rattle.pciplan_lists.proofs.RangeWords.{without_comma}
use Rattle.pciplan_lists.proofs.list_word.has_ranges.Goals as goal

pub returns-in_default-range_of_word : goal.returns-in_default-range_of_word
returns-in_default-range_of_word c =
    let text : rest_with_comma c.parts.left ≡ 44 ∷ (c.first_of.result.0.now ++ rest_with_comma c.first_of.result.1)
    = ap rest_with_comma c.in-Some.is ∙ ap (λ t. 44 ∷ t) c.first_of.ensures.parts in (
      λ no. absurd (false≢true no),
      λ (r, more, is).
          absurd (read_bad IsRangeWord without_comma (44 ∷ c.args.word.now) (rest_with_comma c.parts.left) c.first_of.result.0.now c.first_of.result.1 c.parts.invariant.done
          c.parts.invariant.read text c.first_of.ensures.first (λ q range. let none = c.in_default-range_of_word.ensures.only q range in absurd (cc none)) (r ∷ more) is),
    )

pub parts-preserved : goal.parts-preserved
parts-preserved c =
    let text : rest_with_comma c.parts.left ≡ 44 ∷ (c.first_of.result.0.now ++ rest_with_comma c.first_of.result.1)
    = ap rest_with_comma c.in-Some.is ∙ ap (λ t. 44 ∷ t) c.first_of.ensures.parts in
    record {
      done = c.parts.invariant.done ++ c.in-Some-range_of_word._range ∷ [];
      read = read_more IsRangeWord without_comma (44 ∷ c.args.word.now) (rest_with_comma c.parts.left) c.first_of.result.0.now c.first_of.result.1 c.parts.invariant.done
          c.in-Some-range_of_word._range c.parts.invariant.read text c.first_of.ensures.first c.in-Some-range_of_word.ensures.word
          (λ q range. let found = c.in-Some-range_of_word.ensures.only q range in cc found);
    }

pub returns : goal.returns
returns c = (
  λ yes. some_ranges c.args.word.now c.parts.invariant.done
      (read_all IsRangeWord without_comma c.args.word.now c.parts.invariant.done
      (subst (λ t. IsRead IsRangeWord without_comma (44 ∷ c.args.word.now) (rest_with_comma t) c.parts.invariant.done) c.in_default.is c.parts.invariant.read)),
  λ has. refl,
)
