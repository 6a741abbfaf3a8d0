-- The functions behind a port, and the accesses that it takes.
use Rattle.std.specs.Prelude.{◌≡◌, ℕ, ◌^◌, ◌%◌, ◌==◌, nat_lt, Bool, false, ◌&&◌, ◌||◌, IsFalse, if◌then◌else◌, List, map, Option, Some, ◌+◌}
use Rattle.std.specs.List.{All, find, list_any, slice_get}
use Rattle.pci_spec.specs.Number.{byte_at, number_at, has_bit, IsImage}
use Rattle.pci_spec.specs.Slot.{Slot, same_slot}
use Rattle.pci_spec.specs.Registers.{STATUS, SECONDARY_STATUS}
use Rattle.pci_spec.specs.Header.{layout}
use Rattle.pci_spec.specs.Machine.{Target}

-- the function at a slot
abbrev pub target_at : List Target → Slot → Option Target
target_at targets slot = find (λ t. same_slot t.slot slot) targets

-- whether a function is at a slot
abbrev pub has_function : List Target → Slot → Bool
has_function targets slot = list_any (λ t. same_slot t.slot slot) targets

-- whether bytes can be accessed: 1, 2 or 4 of them, from a multiple of their number on
abbrev pub is_access : ℕ → ℕ → Bool
is_access offset width = (width == 1 || width == 2 || width == 4) && offset % width == 0

-- whether a value fits so many bytes
abbrev pub fits : ℕ → ℕ → Bool
fits width value = nat_lt value (256 ^ width)

-- a function is at the slot, and it shows the number at the offset
abbrev pub ShowsNumber : List Target → Slot → ℕ → ℕ → ℕ → Type 0
ShowsNumber targets slot offset width value =
    (t : Target) × (target_at targets slot ≡ Some t) × (value ≡ number_at t.image offset width)

-- the bytes that can have bits which a one clears: Status, and Secondary Status of a bridge
abbrev pub is_status_byte : List ℕ → ℕ → Bool
is_status_byte image place =
    place == STATUS || place == STATUS + 1
    || (layout image == 1 && (place == SECONDARY_STATUS || place == SECONDARY_STATUS + 1))

pub record IsTarget (t : Target) : Type 0 where
  pub image : IsImage t.image
  pub writable : IsImage t.writable
  pub clearing : IsImage t.clearing
  -- no bit is both
  pub apart : (place i : ℕ)
      → (has_bit (byte_at t.writable place) i && has_bit (byte_at t.clearing place) i) ≡ false
  pub status : (place : ℕ) → IsFalse (is_status_byte t.image place) → byte_at t.clearing place ≡ 0

-- the functions behind a port: each is lawful, and no two are at one slot
pub record IsLawful (targets : List Target) : Type 0 where
  pub each : All IsTarget targets
  pub one : (i k : ℕ) (t u : Target) → slice_get targets i ≡ Some t → slice_get targets k ≡ Some u
      → t.slot ≡ u.slot → i ≡ k

-- the function, with another image if it is at the slot
abbrev pub put_image : Slot → List ℕ → Target → Target
put_image slot image t = if same_slot t.slot slot then record t { image = image } else t

-- the functions, with another image of the one at a slot
abbrev pub with_image : List Target → Slot → List ℕ → List Target
with_image targets slot image = map (put_image slot image) targets
