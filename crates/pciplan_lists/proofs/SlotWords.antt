-- Lists of slots: a slot's word has no comma, and is of no other slot.
use Rattle.std.proofs.Common.{◌≡◌, ℕ, ◌<◌, List, [], ◌∷◌, ◌++◌, length, get_or, map, Option, None, Some, sym, ◌∙◌, ap, subst, arith}
use Rattle.std.specs.Prelude.{IfSome, IfNone}
use Rattle.std.proofs.lemmas.List.{get_or-map}
use Rattle.pci_spec.specs.Slot.{Slot, IsSlot, slot_number}
use Rattle.pci_spec.specs.Text.{hex_byte, hex_digit, slot_text}
use Rattle.pci_spec.specs.Form.{Fits, slot_cells}
use Rattle.pci_spec.proofs.Forms.{fits_slot}
use Rattle.pci_spec.proofs.Spelling.{slot_same}
use Rattle.pciplan_lists.specs.SlotWords.{IsSlotWord}
use Rattle.pciplan_lists.proofs.RangeWords.{without_byte, no_comma}
use Rattle.pciplan_lists.proofs.Without.{Without, without_one, without_both}

-- no comma stands in the word of a slot
pub slot_without_comma : (word : List ℕ) (s : Slot) → IsSlotWord word s → Without 44 word
slot_without_comma word s is = subst (λ w. Without 44 w) (sym is.1)
    (without_both 44 (hex_byte s.bus) ((58 ∷ hex_byte s.device) ++ (46 ∷ hex_digit s.function ∷ [])) (without_byte 44 no_comma s.bus)
    (without_both 44 (58 ∷ hex_byte s.device) (46 ∷ hex_digit s.function ∷ [])
    (without_one 44 58 (hex_byte s.device) (omega arith) (without_byte 44 no_comma s.device))
    (without_one 44 46 (hex_digit s.function ∷ []) (omega arith)
    (without_one 44 (hex_digit s.function) [] (no_comma s.function) (λ i inside. absurd (omega (arith, inside)))))))

-- one word is of one slot
slot_only : (word : List ℕ) (s t : Slot) → word ≡ slot_text s → word ≡ slot_text t → s ≡ t
slot_only word s t of_s of_t = (slot_same s t [] [] (ap (λ l. l ++ []) (sym of_s ∙ of_t))).0

-- what seven bytes spell is the slot of their word, and there is none of others
pub slot_found : (word : List ℕ) (found : Option Slot) → IfSome found (λ s. IsSlot s × (word ≡ slot_text s))
    → IfNone found (Fits slot_cells word → ⊥) → (s : Slot) → IsSlotWord word s → found ≡ Some s
slot_found word None some none s is = absurd (none (subst (λ w. Fits slot_cells w) (sym is.1) (fits_slot s is.0)))
slot_found word (Some t) some none s is = ap Some (slot_only word t s some.1 is.1)

-- the number of a slot of a list, in the list of their numbers
pub number_at : (slots : List Slot) (k : ℕ) (s : Slot) (n : ℕ) → k < length slots → s ≡ get_or slots k s → n ≡ slot_number s
    → get_or (map slot_number slots) k 0 ≡ n
number_at slots k s n inside at is = get_or-map slot_number slots k s 0 inside ∙ sym (is ∙ ap slot_number at)
