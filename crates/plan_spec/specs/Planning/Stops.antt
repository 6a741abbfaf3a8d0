-- Writes that can stop anywhere: close from the top, change registers, open from the bottom.
use Rattle.std.specs.Prelude.{◌≡◌, ℕ, ◌+◌, ◌<◌, ◌≤◌, ◌⊎◌, false, IsTrue, IsFalse, List, [], ◌∷◌, length, slice_index_or}
use Rattle.std.specs.List.{Contains, All}
use Rattle.pci_spec.specs.Number.{has_bit}
use Rattle.pci_spec.specs.Slot.{IsSlot, slot_number}
use Rattle.pci_spec.specs.System.{System, Function}
use Rattle.pci_spec.specs.Machine.{Write}
use Rattle.plan_spec.specs.Planning.Safety.{is_on}

-- a write to Command that clears its bits 0 and 1
pub record IsClosing (w : Write) : Type 0 where
  pub slot : IsSlot w.slot
  pub at : w.offset ≡ 4
  pub wide : w.width ≡ 2
  pub io : has_bit w.value 0 ≡ false
  pub memory : has_bit w.value 1 ≡ false

-- a write that touches no byte of Command
abbrev pub IsAside : Write → Type 0
IsAside w = (w.offset + w.width ≤ 4) ⊎ (6 ≤ w.offset)

-- each write closes the highest function below n that is on
abbrev pub Closes : System → ℕ → List Write → Type 0
Closes s n [] = (f : Function) → Contains s f → slot_number f.slot < n → IsFalse (is_on f)
Closes s n (w ∷ writes) =
    IsClosing w × (slot_number w.slot < n)
    × ((f : Function) → Contains s f → slot_number w.slot < slot_number f.slot
    → slot_number f.slot < n → IsFalse (is_on f))
    × Closes s (slot_number w.slot) writes

-- each write is at a higher slot than the one before it, and none is below n
abbrev pub Rises : ℕ → List Write → Type 0
Rises n [] = Unit {0}
Rises n (w ∷ writes) = (n ≤ slot_number w.slot) × Rises (slot_number w.slot + 1) writes

-- nothing from a slot number on decodes anything
abbrev pub IsOffFrom : ℕ → System → Type 0
IsOffFrom n s = (f : Function) → Contains s f → n ≤ slot_number f.slot → IsFalse (is_on f)

-- the writes of a plan, in three parts
pub record IsStaged (s : System) (closing registers opening : List Write) : Type 0 where
  -- each function that is on is closed, the highest slot first
  pub closes : All IsClosing closing
  pub falling : (j k : ℕ) (d : Write) → j < k → k < length closing
      → slot_number (slice_index_or closing k d).slot
      < slot_number (slice_index_or closing j d).slot
  pub all : (f : Function) → Contains s f → IsTrue (is_on f)
      → (k : ℕ) × (k < length closing)
      × ((d : Write) → slot_number (slice_index_or closing k d).slot ≡ slot_number f.slot)
  -- no register write touches Command
  pub aside : All IsAside registers
  -- the lowest slot is opened first, and each once
  pub rising : (j k : ℕ) (d : Write) → j < k → k < length opening
      → slot_number (slice_index_or opening j d).slot
      < slot_number (slice_index_or opening k d).slot
