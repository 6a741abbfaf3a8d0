-- Slots that one of two lists alone has.
use Rattle.std.specs.Prelude.{◌≡◌, ◌⊎◌, ℕ, List, [], ◌∷◌}
use Rattle.std.specs.List.{Contains}
use Rattle.pci_spec.specs.Slot.{Slot, slot_number}
use Rattle.pci_spec.specs.Fault.{Fault, SlotsDiffer}

-- exactly one of the two has it
abbrev pub IsLoneIn : List Slot → List Slot → Slot → Type 0
IsLoneIn slots others slot =
    (Contains slots slot × (Contains others slot → ⊥))
    ⊎ ((Contains slots slot → ⊥) × Contains others slot)

-- the fault names such a slot
abbrev pub IsLoneSlot : List Slot → List Slot → Fault → Type 0
IsLoneSlot slots others fault =
    (slot : Slot) × (fault ≡ SlotsDiffer slot) × IsLoneIn slots others slot

-- the number of the first slot; where there is none, one above all of them
abbrev pub IsFirstSlotNumber : List Slot → ℕ → Type 0
IsFirstSlotNumber [] n = n ≡ 0x10000
IsFirstSlotNumber (slot ∷ rest) n = n ≡ slot_number slot
