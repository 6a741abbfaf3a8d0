-- The registers of a configuration header, a table for each layout (PCI 3.0, 6.1 and 6.2; Bridge 1.2, 3.2.5).
use Rattle.std.specs.Prelude.{ℕ, ◌+◌, Bool, true, false, List, [], ◌∷◌, map}
use Rattle.std.specs.List.{filter}

-- ---- offsets of both layouts

abbrev pub VENDOR_ID : ℕ
VENDOR_ID = 0x00

abbrev pub DEVICE_ID : ℕ
DEVICE_ID = 0x02

abbrev pub COMMAND : ℕ
COMMAND = 0x04

abbrev pub STATUS : ℕ
STATUS = 0x06

-- Class Code, from the interface upward
abbrev pub INTERFACE : ℕ
INTERFACE = 0x09

abbrev pub HEADER_TYPE : ℕ
HEADER_TYPE = 0x0e

-- the first Base Address register
abbrev pub BASE_ADDRESS : ℕ
BASE_ADDRESS = 0x10

abbrev pub CAPABILITIES_POINTER : ℕ
CAPABILITIES_POINTER = 0x34

abbrev pub INTERRUPT_LINE : ℕ
INTERRUPT_LINE = 0x3c

-- ---- of a device

abbrev pub EXPANSION_ROM : ℕ
EXPANSION_ROM = 0x30

-- ---- of a bridge

abbrev pub PRIMARY_BUS : ℕ
PRIMARY_BUS = 0x18

abbrev pub SECONDARY_BUS : ℕ
SECONDARY_BUS = 0x19

abbrev pub SUBORDINATE_BUS : ℕ
SUBORDINATE_BUS = 0x1a

abbrev pub IO_BASE : ℕ
IO_BASE = 0x1c

abbrev pub IO_LIMIT : ℕ
IO_LIMIT = 0x1d

abbrev pub SECONDARY_STATUS : ℕ
SECONDARY_STATUS = 0x1e

abbrev pub MEMORY_BASE : ℕ
MEMORY_BASE = 0x20

abbrev pub MEMORY_LIMIT : ℕ
MEMORY_LIMIT = 0x22

abbrev pub PREFETCHABLE_BASE : ℕ
PREFETCHABLE_BASE = 0x24

abbrev pub PREFETCHABLE_LIMIT : ℕ
PREFETCHABLE_LIMIT = 0x26

abbrev pub PREFETCHABLE_BASE_UPPER : ℕ
PREFETCHABLE_BASE_UPPER = 0x28

abbrev pub PREFETCHABLE_LIMIT_UPPER : ℕ
PREFETCHABLE_LIMIT_UPPER = 0x2c

abbrev pub IO_BASE_UPPER : ℕ
IO_BASE_UPPER = 0x30

abbrev pub IO_LIMIT_UPPER : ℕ
IO_LIMIT_UPPER = 0x32

abbrev pub BRIDGE_EXPANSION_ROM : ℕ
BRIDGE_EXPANSION_ROM = 0x38

abbrev pub BRIDGE_CONTROL : ℕ
BRIDGE_CONTROL = 0x3e

-- ---- bits

-- of Command (PCI 3.0, 6.2.2)
abbrev pub PALETTE_SNOOP : ℕ
PALETTE_SNOOP = 5

-- of Bridge Control (Bridge 1.2, 3.2.5)
abbrev pub ISA_ENABLE : ℕ
ISA_ENABLE = 2

abbrev pub VGA_ENABLE : ℕ
VGA_ENABLE = 3

abbrev pub SECONDARY_BUS_RESET : ℕ
SECONDARY_BUS_RESET = 6

-- ---- the tables

-- what a register is for
pub data Role : Type 0 where
  -- Base Address register n (PCI 3.0, 6.2.5.1)
  BarRole : (n : ℕ) → Role
  -- the Expansion ROM Base Address register (PCI 3.0, 6.2.5.2)
  RomRole : Role
  -- base and limit of a window, or their upper halves, each half of the register; what is below `step` is fixed (Bridge 1.2, 3.2.5)
  BoundsRole : (step : ℕ) → Role
  -- the upper half of a base or of a limit
  UpperRole : Role
  -- it decodes no address, and a write sets these bits (PCI 3.0, 6.2.2 and 6.2.4; Bridge 1.2, 3.2.5)
  ControlRole : (writable : ℕ) → Role
  -- a one clears these bits, and none can be set (PCI 3.0, 6.2.3; Bridge 1.2, 3.2.5)
  StatusRole : (clearing : ℕ) → Role

pub record Register : Type 0 where
  pub offset : ℕ
  pub width : ℕ
  pub role : Role

abbrev pub register : ℕ → ℕ → Role → Register
register offset width role = record { offset = offset; width = width; role = role }

-- a type 0 header: first the registers that address decoding is set by, by rising offset
abbrev pub device_header : List Register
device_header =
    register BASE_ADDRESS 4 (BarRole 0)
    ∷ register (BASE_ADDRESS + 4) 4 (BarRole 1)
    ∷ register (BASE_ADDRESS + 8) 4 (BarRole 2)
    ∷ register (BASE_ADDRESS + 12) 4 (BarRole 3)
    ∷ register (BASE_ADDRESS + 16) 4 (BarRole 4)
    ∷ register (BASE_ADDRESS + 20) 4 (BarRole 5)
    ∷ register EXPANSION_ROM 4 RomRole
    ∷ register COMMAND 2 (ControlRole 0x0547)
    ∷ register STATUS 2 (StatusRole 0xf900)
    ∷ register INTERRUPT_LINE 1 (ControlRole 0xff)
    ∷ []

-- a type 1 header, likewise
abbrev pub bridge_header : List Register
bridge_header =
    register BASE_ADDRESS 4 (BarRole 0)
    ∷ register (BASE_ADDRESS + 4) 4 (BarRole 1)
    ∷ register IO_BASE 2 (BoundsRole 16)
    ∷ register MEMORY_BASE 4 (BoundsRole 16)
    ∷ register PREFETCHABLE_BASE 4 (BoundsRole 16)
    ∷ register PREFETCHABLE_BASE_UPPER 4 UpperRole
    ∷ register PREFETCHABLE_LIMIT_UPPER 4 UpperRole
    ∷ register IO_BASE_UPPER 4 (BoundsRole 1)
    ∷ register BRIDGE_EXPANSION_ROM 4 RomRole
    ∷ register COMMAND 2 (ControlRole 0x0547)
    ∷ register STATUS 2 (StatusRole 0xf900)
    ∷ register PRIMARY_BUS 1 (ControlRole 0xff)
    ∷ register SECONDARY_BUS 1 (ControlRole 0xff)
    ∷ register SUBORDINATE_BUS 1 (ControlRole 0xff)
    ∷ register SECONDARY_STATUS 2 (StatusRole 0xf900)
    ∷ register INTERRUPT_LINE 1 (ControlRole 0xff)
    ∷ []

-- whether address decoding is set by a register
abbrev pub is_address : Role → Bool
is_address (ControlRole writable) = false
is_address (StatusRole clearing) = false
is_address role = true

-- the offsets and widths of those registers
abbrev pub addresses_of : List Register → List (ℕ × ℕ)
addresses_of header = map (λ r. (r.offset, r.width)) (filter (λ r. is_address r.role) header)
