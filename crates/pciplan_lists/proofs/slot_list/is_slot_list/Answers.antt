use Rattle.std.proofs.Common.{◌≡◌, ◌∷◌, ◌++◌, [], ◌∙◌, ap, refl, subst}
use Rattle.std.proofs.lemmas.Bool.{false≢true}
use Rattle.pciplan_lists.specs.Joined.{rest_with_comma}
use Rattle.pciplan_lists.specs.SlotWords.{IsSlotWord}
use Rattle.pciplan_lists.proofs.Joined.{IsRead, read_bad, read_more}
use Rattle.pciplan_lists.proofs.RisingSlots.{HasRisen, all_risen, fallen, one_risen}
use Rattle.pciplan_lists.proofs.SlotWords.{slot_without_comma}
use Rattle.pciplan_lists.proofs.slot_list.is_slot_list.Goals as goal

pub returns-in_default-slot_of_word : goal.returns-in_default-slot_of_word
returns-in_default-slot_of_word c =
    let text : rest_with_comma c.parts.left ≡ 44 ∷ (c.first_of.result.0.now ++ rest_with_comma c.first_of.result.1)
    = ap rest_with_comma c.in-Some.is ∙ ap (λ t. 44 ∷ t) c.first_of.ensures.parts in (
      λ no. absurd (false≢true no),
      λ (slots, list).
          absurd (read_bad IsSlotWord slot_without_comma (44 ∷ c.args.word.now) (rest_with_comma c.parts.left) c.first_of.result.0.now c.first_of.result.1 c.parts.invariant.done
          c.parts.invariant.read text c.first_of.ensures.first (λ s is. let none = c.in_default-slot_of_word.ensures.only s is in absurd (cc none)) slots list.joined),
    )

pub returns-then-not-may_follow : goal.returns-then-not-may_follow
returns-then-not-may_follow c =
    let text : rest_with_comma c.parts.left ≡ 44 ∷ (c.first_of.result.0.now ++ rest_with_comma c.first_of.result.1)
    = ap rest_with_comma c.in-Some.is ∙ ap (λ t. 44 ∷ t) c.first_of.ensures.parts in
    let read : IsRead IsSlotWord slot_without_comma (44 ∷ c.args.word.now) (rest_with_comma c.first_of.result.1) (c.parts.invariant.done ++ c.in-Some-slot_of_word.slot ∷ [])
    = read_more IsSlotWord slot_without_comma (44 ∷ c.args.word.now) (rest_with_comma c.parts.left) c.first_of.result.0.now c.first_of.result.1 c.parts.invariant.done
    c.in-Some-slot_of_word.slot c.parts.invariant.read text c.first_of.ensures.first c.in-Some-slot_of_word.ensures.word
    (λ s is. let found = c.in-Some-slot_of_word.ensures.only s is in cc found) in (
      λ no. absurd (false≢true no),
      λ has. absurd (fallen c.args.word.now (rest_with_comma c.first_of.result.1) c.parts.last c.parts.invariant.done c.in-Some-slot_of_word.slot c.parts.invariant.last read
          (λ above. let yes = c.may_follow.ensures.1 above in false≢true (cc (c.if-not-may_follow.true, yes))) has),
    )

pub parts-preserved : goal.parts-preserved
parts-preserved c =
    let text : rest_with_comma c.parts.left ≡ 44 ∷ (c.first_of.result.0.now ++ rest_with_comma c.first_of.result.1)
    = ap rest_with_comma c.in-Some.is ∙ ap (λ t. 44 ∷ t) c.first_of.ensures.parts in
    let read : IsRead IsSlotWord slot_without_comma (44 ∷ c.args.word.now) (rest_with_comma c.first_of.result.1) (c.parts.invariant.done ++ c.in-Some-slot_of_word.slot ∷ [])
    = read_more IsSlotWord slot_without_comma (44 ∷ c.args.word.now) (rest_with_comma c.parts.left) c.first_of.result.0.now c.first_of.result.1 c.parts.invariant.done
    c.in-Some-slot_of_word.slot c.parts.invariant.read text c.first_of.ensures.first c.in-Some-slot_of_word.ensures.word
    (λ s is. let found = c.in-Some-slot_of_word.ensures.only s is in cc found) in
    one_risen (44 ∷ c.args.word.now) (rest_with_comma c.parts.left) (rest_with_comma c.first_of.result.1) c.parts.last c.in-Some-slot_of_word.slot c.parts.invariant read
    (c.may_follow.ensures.0 c.if-not-may_follow.false)

pub returns : goal.returns
returns c = (
  λ yes. all_risen c.args.word.now c.parts.last
      (subst (λ t. HasRisen (44 ∷ c.args.word.now) (rest_with_comma t) c.parts.last) c.in_default.is c.parts.invariant),
  λ has. refl,
)
