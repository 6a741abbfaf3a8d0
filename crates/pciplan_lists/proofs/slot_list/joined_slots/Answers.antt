use Rattle.std.proofs.Common.{◌≡◌, ◌∷◌, ◌++◌, sym, ◌∙◌, ap, subst}
use Rattle.pciplan_lists.specs.Joined.{rest_with_comma}
use Rattle.pciplan_lists.specs.SlotWords.{IsSlotWord}
use Rattle.pciplan_lists.proofs.Joined.{IsRead, read_bad, read_more, read_all, read_only}
use Rattle.pciplan_lists.proofs.SlotWords.{slot_without_comma}
use Rattle.pciplan_lists.proofs.slot_list.joined_slots.Goals as goal

pub returns-in_default-slot_of_word-clause-only : goal.returns-in_default-slot_of_word-clause-only
returns-in_default-slot_of_word-clause-only g c = λ slots are.
    let text : rest_with_comma c.parts.left ≡ 44 ∷ (c.first_of.result.0.now ++ rest_with_comma c.first_of.result.1)
    = ap rest_with_comma c.in-Some.is ∙ ap (λ t. 44 ∷ t) c.first_of.ensures.parts in
    read_bad IsSlotWord slot_without_comma (44 ∷ c.args.word.now) (rest_with_comma c.parts.left) c.first_of.result.0.now c.first_of.result.1 c.parts.slots.items
    c.parts.invariant text c.first_of.ensures.first (λ s is. let none = c.in_default-slot_of_word.ensures.only s is in absurd (cc none)) slots are

pub parts-preserved : goal.parts-preserved
parts-preserved g c =
    let text : rest_with_comma c.parts.left ≡ 44 ∷ (c.first_of.result.0.now ++ rest_with_comma c.first_of.result.1)
    = ap rest_with_comma c.in-Some.is ∙ ap (λ t. 44 ∷ t) c.first_of.ensures.parts in
    subst (λ l. IsRead IsSlotWord slot_without_comma (44 ∷ c.args.word.now) (rest_with_comma c.first_of.result.1) l) (sym c.in_ok-push.ensures.items)
    (read_more IsSlotWord slot_without_comma (44 ∷ c.args.word.now) (rest_with_comma c.parts.left) c.first_of.result.0.now c.first_of.result.1 c.parts.slots.items
    c.in-Some-slot_of_word.slot c.parts.invariant text c.first_of.ensures.first c.in-Some-slot_of_word.ensures.word
    (λ s is. let found = c.in-Some-slot_of_word.ensures.only s is in cc found))

pub returns-clause-word : goal.returns-clause-word
returns-clause-word g c =
    read_all IsSlotWord slot_without_comma c.args.word.now c.parts.slots.items
    (subst (λ t. IsRead IsSlotWord slot_without_comma (44 ∷ c.args.word.now) (rest_with_comma t) c.parts.slots.items) c.in_default.is c.parts.invariant)

pub returns-clause-only : goal.returns-clause-only
returns-clause-only g c = λ slots are.
    read_only IsSlotWord slot_without_comma c.args.word.now c.parts.slots.items
    (subst (λ t. IsRead IsSlotWord slot_without_comma (44 ∷ c.args.word.now) (rest_with_comma t) c.parts.slots.items) c.in_default.is c.parts.invariant) slots are
