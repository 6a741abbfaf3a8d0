-- Where the bytes after some blocks of sizes stop being a block's text.
use Rattle.std.specs.Prelude.{◌≡◌, ℕ, ◌+◌, ◌-◌, ◌/◌, ◌≤◌, nat_lt, if◌then◌else◌, List, [], ◌∷◌, ◌++◌, take}
use Rattle.std.specs.List.{slice_index_or}
use Rattle.pci_spec.specs.Slot.{Slot, IsSlot, IsRising}
use Rattle.pci_spec.specs.Text.{slot_text}
use Rattle.pci_spec.specs.Form.{Cell, Fixed}
use Rattle.pci_spec.specs.SizesText.{SizesBlock, sized_slots}
use Rattle.pci_spec.specs.SizesForm.{sizes_cells}

-- the cell at a place of a block
abbrev pub cell_at : ℕ → Cell
cell_at place = slice_index_or sizes_cells place (Fixed 0)

-- the line ends before a place: one after the slot line's eight bytes, and one more after each line of 57
abbrev pub ends_before : ℕ → ℕ
ends_before place = if nat_lt place 8 then 0 else 1 + (place - 8) / 57

-- the slot, once all its seven bytes are among the first so many, may stand after these blocks
abbrev pub SlotFollows : List SizesBlock → List ℕ → ℕ → Type 0
SlotFollows blocks bytes place =
    7 ≤ place → (s : Slot) × (take 7 bytes ≡ slot_text s) × IsRising (sized_slots blocks ++ s ∷ [])

-- they have the whole slot, and it may not stand there
pub record SlotIsLow (blocks : List SizesBlock) (bytes : List ℕ) (place : ℕ) : Type 0 where
  pub whole : 7 ≤ place
  pub slot : Slot
  pub is_slot : IsSlot slot
  pub text : take 7 bytes ≡ slot_text slot
  pub low : IsRising (sized_slots blocks ++ slot ∷ []) → ⊥
