-- What sizing finds, and what it leaves where it stops.
use Rattle.std.specs.Prelude.{◌≡◌, ℕ, ◌+◌, ◌*◌, ◌/◌, ◌<◌, ◌≤◌, ◌⊎◌, ◌==◌, Bool, ◌||◌, IsTrue, IsFalse, List, [], length}
use Rattle.std.specs.Option.{unwrap_or}
use Rattle.std.specs.List.{list_any}
use Rattle.pci_spec.specs.Number.{byte_at, has_bit, AgreeFrom}
use Rattle.pci_spec.specs.Slot.{Slot}
use Rattle.pci_spec.specs.Registers.{VENDOR_ID, COMMAND, HEADER_TYPE}
use Rattle.pci_spec.specs.Header.{command, layout, address_registers}
use Rattle.pci_spec.specs.Fault.{is_in_address_register, has_no_vendor, has_other_layout}
use Rattle.pci_spec.specs.Machine.{Target, written}
use Rattle.pci_spec.specs.Port.{target_at, has_function}

-- what stands for a function where there is none
abbrev pub no_target : Target
no_target =
    record {
      slot = record { bus = 0; device = 0; function = 0 };
      image = [];
      writable = [];
      clearing = [];
    }

-- the function at a slot, where there is one
abbrev pub function_at : List Target → Slot → Target
function_at targets slot = unwrap_or (target_at targets slot) no_target

-- two images differ at most in `width` bytes from an offset on
pub record DiffersWithin (offset width : ℕ) (image other : List ℕ) : Type 0 where
  pub full : length other ≡ length image
  pub outside : (place : ℕ) → (place < offset) ⊎ (offset + width ≤ place)
      → byte_at other place ≡ byte_at image place

-- a one in these bytes clears no bit
abbrev pub IsPlain : Target → ℕ → ℕ → Type 0
IsPlain t offset width =
    (place : ℕ) → offset ≤ place → place < offset + width → byte_at t.clearing place ≡ 0

-- the image after Command's decode bits were written with zeros, and all its other bits with what they were
abbrev pub quieted : Target → List ℕ
quieted t = written t COMMAND 2 (command t.image / 4 * 4)

-- two images of a function differ at most in its address registers
pub record DiffersInRegisters (image other : List ℕ) : Type 0 where
  pub full : length other ≡ length image
  pub outside : (place : ℕ) → IsFalse (is_in_address_register (layout image) place)
      → byte_at other place ≡ byte_at image place

-- the bytes that sizing writes: Command and the address registers
abbrev pub is_sizing_byte : ℕ → ℕ → Bool
is_sizing_byte kind place =
    place == COMMAND || place == COMMAND + 1 || is_in_address_register kind place

-- What an access that failed leaves of a function: its decode bits are clear where they can be written, and the address
-- registers are open; all else is as it was.
pub record IsPartlySized (t : Target) (image : List ℕ) : Type 0 where
  pub full : length image ≡ 256
  pub rest_of_command : AgreeFrom 2 (command image) (command t.image)
  pub quiet : (i : ℕ) → i < 2 → IsTrue (has_bit (byte_at t.writable COMMAND) i)
      → IsFalse (has_bit (command image) i)
  pub others : (place : ℕ) → IsFalse (is_sizing_byte (layout t.image) place)
      → byte_at image place ≡ byte_at t.image place

-- a decode bit of Command is set and can't be written
abbrev pub IsStuck : Target → Type 0
IsStuck t =
    (i : ℕ) × (i < 2) × IsTrue (has_bit (command t.image) i)
    × IsFalse (has_bit (byte_at t.writable COMMAND) i)

-- there is a function at the slot, of a known layout, whose decode bits can be cleared
pub record IsSizable (targets : List Target) (slot : Slot) : Type 0 where
  pub there : IsTrue (has_function targets slot)
  pub vendor : IsFalse (has_no_vendor (function_at targets slot).image)
  pub header : IsFalse (has_other_layout (function_at targets slot).image)
  pub free : IsStuck (function_at targets slot) → ⊥

-- ---- where sizing makes its accesses

-- whether an address register of a layout begins at an offset
abbrev pub is_address_register : ℕ → ℕ → Bool
is_address_register kind offset = list_any (λ r. r.0 == offset) (address_registers kind)

-- before anything is written: Vendor ID, Header Type and Command
abbrev pub is_looked_at : ℕ → Bool
is_looked_at offset = offset == VENDOR_ID || offset == HEADER_TYPE || offset == COMMAND

-- from then on: Command and the address registers
abbrev pub is_written_to : ℕ → ℕ → Bool
is_written_to kind offset = offset == COMMAND || is_address_register kind offset
