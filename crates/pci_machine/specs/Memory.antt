-- The functions of a machine in memory.
use Rattle.std.specs.Prelude.{◌≡◌, ℕ, ◌&&◌, not, if◌then◌else◌, List, map, slice_set}
use Rattle.std.specs.List.{All}
use Rattle.pci_spec.specs.Number.{byte_at, has_bit}
use Rattle.pci_spec.specs.Registers.{HEADER_TYPE}
use Rattle.pci_spec.specs.Slot.{Slot, same_slot, IsRising}
use Rattle.pci_spec.specs.Machine.{Target, byte_of_bits}
use Rattle.pci_spec.specs.Port.{IsTarget}

-- the functions are lawful, their slots rise, and the header type of none can be written
pub record IsMachine (targets : List Target) : Type 0 where
  pub each : All IsTarget targets
  pub rising : IsRising (map (λ t. t.slot) targets)
  pub header : All (λ t. byte_at t.writable HEADER_TYPE ≡ 0) targets

-- a byte without the bits of a mask
abbrev pub without_bits : ℕ → ℕ → ℕ
without_bits byte mask = byte_of_bits (λ i. has_bit byte i && not (has_bit mask i))

-- the function, when those bits of a byte can no longer be written
abbrev pub pinned : Target → ℕ → ℕ → Target
pinned t place mask =
    record t
    { writable = slice_set t.writable place (without_bits (byte_at t.writable place) mask) }

-- the same, of the function at a slot alone
abbrev pub pin_target : Slot → ℕ → ℕ → Target → Target
pin_target slot place mask t = if same_slot t.slot slot then pinned t place mask else t

-- the functions, when the one at a slot has those bits pinned
abbrev pub pin_targets : List Target → Slot → ℕ → ℕ → List Target
pin_targets targets slot place mask = map (pin_target slot place mask) targets
