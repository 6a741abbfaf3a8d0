-- Flags by slot number, set one after another.
use Rattle.std.proofs.Common.{◌≡◌, ℕ, ◌+◌, ◌<◌, ◌≤◌, inl, inr, List, length, take, set, replicate, get_or, Bool, true, false, ◌||◌, arith, sym, ◌∙◌, ap, refl}
use Rattle.std.specs.List.{list_any}
use Rattle.std.proofs.lemmas.Bool.{cases_eq, false_from_ne_true}
use Rattle.std.proofs.lemmas.List.{get_or-set_same, get_or-set_other, get_or-replicate, take_all}
use Rattle.std.proofs.lemmas.List.Folds.{list_any_more}
use Rattle.pci_spec.specs.Slot.{Slot, IsSlot, same_slot, slot_number}
use Rattle.pci_spec.proofs.Regions.{slot_number-same}
use Rattle.pci_spec.proofs.SameSlot.{slot_itself}
use Rattle.pci_kept.specs.Flags.{AreFlags}
use Rattle.pci_kept.proofs.Indexes.{one_number}

pub number_low : (slot : Slot) → IsSlot slot → slot_number slot < 65536
number_low slot is = let a = is.0 in let b = is.1 in let c = is.2 in omega (arith, a, b, c)

-- what the flags tell once so many slots were gone over
abbrev pub Told : List Slot → List Bool → ℕ → List Bool → Type 0
Told slots old count flags =
    (slot : Slot) → IsSlot slot → get_or flags (slot_number slot) false ≡ (get_or old (slot_number slot) false || list_any (same_slot slot) (take count slots))

or_false : (b : Bool) → b ≡ (b || false)
or_false true = refl
or_false false = refl

or_true : (b : Bool) → true ≡ (b || true)
or_true true = refl
or_true false = refl

or_assoc : (a b c : Bool) → ((a || b) || c) ≡ (a || (b || c))
or_assoc true b c = refl
or_assoc false b c = refl

module _ (slots : List Slot) (old flags : List Bool) (size : length flags ≡ 65536) (count : ℕ) (within : count < length slots) (x : Slot) (x_is : x ≡ get_or slots count x) (is : IsSlot x) (told : Told slots old count flags) where
  -- with one slot more
  more : (slot : Slot) → (get_or old (slot_number slot) false || list_any (same_slot slot) (take (count + 1) slots)) ≡ ((get_or old (slot_number slot) false || list_any (same_slot slot) (take count slots)) || same_slot slot x)
  more slot =
      ap (λ b. get_or old (slot_number slot) false || b) (list_any_more (same_slot slot) slots count x within ∙ ap (λ y. list_any (same_slot slot) (take count slots) || same_slot slot y) (sym x_is))
      ∙ sym (or_assoc (get_or old (slot_number slot) false) (list_any (same_slot slot) (take count slots)) (same_slot slot x))

  pub told_more : Told slots old (count + 1) (set flags (slot_number x) true)
  told_more slot is_slot = elim (cases_eq (slot_number slot) (slot_number x)) [
    | inl same ↦
        let one : same_slot slot x ≡ true = ap (same_slot slot) (sym (slot_number-same slot x is_slot is same)) ∙ slot_itself slot in
        let low = number_low x is in
        ap (λ n. get_or (set flags (slot_number x) true) n false) same
        ∙ get_or-set_same flags (slot_number x) true false (omega (arith, low, size))
        ∙ or_true (get_or old (slot_number slot) false || list_any (same_slot slot) (take count slots))
        ∙ ap (λ b. (get_or old (slot_number slot) false || list_any (same_slot slot) (take count slots)) || b) (sym one)
        ∙ sym (more slot)
    | inr differ ↦
        let two : same_slot slot x ≡ false = false_from_ne_true (same_slot slot x) (λ same. differ (one_number slot x same)) in
        get_or-set_other flags (slot_number x) (slot_number slot) true false differ
        ∙ told slot is_slot
        ∙ or_false (get_or old (slot_number slot) false || list_any (same_slot slot) (take count slots))
        ∙ ap (λ b. (get_or old (slot_number slot) false || list_any (same_slot slot) (take count slots)) || b) (sym two)
        ∙ sym (more slot)
  ]

pub told_none : (slots : List Slot) (old : List Bool) → Told slots old 0 old
told_none slots old slot is = or_false (get_or old (slot_number slot) false)

pub told_all : (slots : List Slot) (old flags : List Bool) (count : ℕ) → length slots ≤ count → Told slots old count flags
    → (slot : Slot) → IsSlot slot → get_or flags (slot_number slot) false ≡ (get_or old (slot_number slot) false || list_any (same_slot slot) slots)
told_all slots old flags count end told slot is =
    told slot is ∙ ap (λ xs. get_or old (slot_number slot) false || list_any (same_slot slot) xs) (take_all count slots end)

pub all_flags : (slots : List Slot) (old flags : List Bool) → length flags ≡ 65536 → old ≡ replicate 65536 false
    → ((slot : Slot) → IsSlot slot → get_or flags (slot_number slot) false ≡ (get_or old (slot_number slot) false || list_any (same_slot slot) slots)) → AreFlags slots flags
all_flags slots old flags size none told = record {
  size = size;
  each = λ slot is. (
      let low = number_low slot is in
      told slot is
      ∙ ap (λ b. b || list_any (same_slot slot) slots) (ap (λ xs. get_or xs (slot_number slot) false) none ∙ get_or-replicate 65536 (slot_number slot) false false low));
}
