-- Writes that move regions and switch functions on and off, and change nothing else.
use Rattle.std.specs.Prelude.{◌≡◌, ℕ, ◌+◌, ◌-◌, ◌*◌, ◌⊎◌, ◌/◌, ◌%◌, ◌^◌, ◌<◌, ◌≤◌, ◌==◌, nat_lt, false, ◌&&◌, IsTrue, IsFalse, List}
use Rattle.std.specs.List.{Contains, AllZip}
use Rattle.pci_spec.specs.Registers.{COMMAND, SECONDARY_STATUS}
use Rattle.pci_spec.specs.Slot.{same_slot}
use Rattle.std.specs.Int.{bit_at}
use Rattle.pci_spec.specs.Bus.{IsNested}
use Rattle.pci_spec.specs.Sound.{HasChains, IsInProfile}
use Rattle.plan_spec.specs.Plan.{IsMoved}
use Rattle.pci_spec.specs.Number.{byte_at, number_at, has_bit}
use Rattle.pci_spec.specs.System.{System, Function, IsSystem, is_bridge}
use Rattle.pci_spec.specs.Machine.{Write, in_fields, address_fields, clearing_bits}

-- It writes to each byte what stands there, but for address bits and the bits of Command that enable a space,
-- and touches no bit that a one clears.
pub record IsFitting (w : Write) (f : Function) : Type 0 where
  pub inside : w.offset + w.width ≤ 256
  pub same : (place i : ℕ) → w.offset ≤ place → place < w.offset + w.width → i < 8
      → IsFalse (in_fields (address_fields f.image f.probe) place i)
      → IsFalse (place == COMMAND && nat_lt i 2)
      → bit_at (w.value / 256 ^ (place - w.offset) % 256) i ≡ bit_at (byte_at f.image place) i
  pub clears : (place i : ℕ) → w.offset ≤ place → place < w.offset + w.width → i < 8
      → has_bit (byte_at (clearing_bits f.image) place) i ≡ false

-- The same by numbers: the datum shows what the register shows, but for address bits and the enables,
-- and the write touches neither Status nor a bridge's Secondary Status.
pub record FitsByNumber (w : Write) (f : Function) : Type 0 where
  pub inside : w.offset + w.width ≤ 256
  pub same : (j i : ℕ) → j < w.width → i < 8
      → IsFalse (in_fields (address_fields f.image f.probe) (w.offset + j) i)
      → IsFalse (w.offset + j == COMMAND && nat_lt i 2)
      → bit_at w.value (8 * j + i) ≡ bit_at (number_at f.image w.offset w.width) (8 * j + i)
  pub status : (w.offset + w.width ≤ 6) ⊎ (8 ≤ w.offset)
  pub second : IsTrue (is_bridge f)
      → (w.offset + w.width ≤ SECONDARY_STATUS) ⊎ (SECONDARY_STATUS + 2 ≤ w.offset)

-- a write fits the function at its slot as it is at the start
abbrev pub FitsAt : System → Write → Type 0
FitsAt s w = (f : Function) → Contains s f → IsTrue (same_slot f.slot w.slot) → IsFitting w f

-- what each state on the way keeps of the start
pub record IsKept (roots : List ℕ) (start now : System) : Type 0 where
  pub moved : AllZip IsMoved start now
  pub system : IsSystem now
  pub nested : IsNested roots now
  pub profile : IsInProfile roots now
  pub chains : HasChains now
