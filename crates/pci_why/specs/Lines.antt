-- Lines, by what the code holds.
use Rattle.std.specs.Prelude.{◌≡◌, ℕ, ◌++◌, Bool, List, ◌∷◌, []}
use Rattle.std.specs.List.{flat_map, list_any}
use Rattle.pci_spec.specs.Slot.{Slot, same_slot}
use Rattle.pci_spec.specs.Registers.{BRIDGE_CONTROL, COMMAND}
use Rattle.pci_spec.specs.Text.{hex_byte, slot_text}
use Rattle.pci_spec.specs.System.{Space}
use Rattle.pci_spec.specs.Listing.{inner_line}
use Rattle.judge_spec.specs.Given.{Given}
use Rattle.judge_spec.specs.Why.{legacy_text, palette_text}

-- lines of which P holds were appended
pub record Appends (P : List ℕ → Type 0) (old new : List ℕ) : Type 0 where
  pub lines : List ℕ
  pub text : new ≡ old ++ lines
  pub are : P lines

-- words, each behind a space
abbrev pub spaced : List (List ℕ) → List ℕ
spaced words = flat_map (λ word. 32 ∷ word) words

-- words, each behind a space, and what ends their line
abbrev pub ended : List (List ℕ) → List ℕ → List ℕ
ended [] end = end
ended (word ∷ words) end = (32 ∷ word) ++ ended words end

-- the line of a part that a register of a bridge names
abbrev pub fixed_line : List ℕ → Slot → ℕ → List ℕ → List ℕ
fixed_line word slot reg name = inner_line (word ∷ slot_text slot ∷ hex_byte reg ∷ name ∷ [])

-- that of a legacy part
abbrev pub legacy_line : List ℕ → Slot → Bool → Space → List ℕ
legacy_line word slot is_narrow space =
    fixed_line word slot BRIDGE_CONTROL (legacy_text is_narrow space)

-- that of a palette part
abbrev pub palette_line : List ℕ → Slot → Bool → List ℕ
palette_line word slot is_narrow = fixed_line word slot COMMAND (palette_text is_narrow)

-- whether the bridge at a slot is among those that take what no region of their bus claims
abbrev pub is_taking_unclaimed : Given → Slot → Bool
is_taking_unclaimed given slot = list_any (λ entry. same_slot entry.slot slot) given.unclaimed
