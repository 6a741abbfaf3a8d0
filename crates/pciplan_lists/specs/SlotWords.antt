-- The slots of a list of the command line.
use Rattle.std.specs.Prelude.{◌≡◌, ℕ, List, ◌∷◌}
use Rattle.pci_spec.specs.Slot.{Slot, IsSlot, IsRising}
use Rattle.pci_spec.specs.Text.{slot_text}
use Rattle.pciplan_lists.specs.Joined.{AreJoined}

-- a slot as `bb:dd.f`
abbrev pub IsSlotWord : List ℕ → Slot → Type 0
IsSlotWord word s = IsSlot s × (word ≡ slot_text s)

-- slots joined by commas: with a comma before the first too, each has one
abbrev pub AreSlots : List ℕ → List Slot → Type 0
AreSlots word slots = AreJoined IsSlotWord (44 ∷ word) slots

-- they rise
pub record IsSlotListWord (word : List ℕ) (slots : List Slot) : Type 0 where
  pub joined : AreSlots word slots
  pub rising : IsRising slots

-- the word is a list of slots
abbrev pub IsSlotList : List ℕ → Type 0
IsSlotList word = (slots : List Slot) × IsSlotListWord word slots
