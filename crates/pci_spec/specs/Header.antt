-- The registers of a configuration header that decoding reads (PCI 3.0, 6.1; Bridge 1.2, 3.2).
use Rattle.std.specs.Prelude.{ℕ, ◌+◌, ◌*◌, ◌%◌, ◌==◌, nat_lt, nat_le, Bool, ◌&&◌, if◌then◌else◌, List}
use Rattle.pci_spec.specs.Number.{byte_at, number_at}
use Rattle.pci_spec.specs.Registers.{VENDOR_ID, DEVICE_ID, COMMAND, STATUS, INTERFACE, HEADER_TYPE, PRIMARY_BUS, SECONDARY_BUS, SUBORDINATE_BUS, BRIDGE_CONTROL, BASE_ADDRESS, EXPANSION_ROM, BRIDGE_EXPANSION_ROM, device_header, bridge_header, addresses_of}

-- Vendor ID; FFFFh is read where no function answers (6.2.1)
abbrev pub vendor_id : List ℕ → ℕ
vendor_id image = number_at image VENDOR_ID 2

-- Device ID (6.2.1)
abbrev pub device_id : List ℕ → ℕ
device_id image = number_at image DEVICE_ID 2

-- Command (6.2.2)
abbrev pub command : List ℕ → ℕ
command image = number_at image COMMAND 2

-- Status (6.2.3)
abbrev pub status : List ℕ → ℕ
status image = number_at image STATUS 2

-- Class Code: interface, sub-class and base class, as one number of 24 bits (6.2.1)
abbrev pub class_code : List ℕ → ℕ
class_code image = number_at image INTERFACE 3

-- Header Type without the multi-function bit: 0 for a device, 1 for a PCI-to-PCI bridge (6.2.1)
abbrev pub layout : List ℕ → ℕ
layout image = byte_at image HEADER_TYPE % 128

-- Primary, Secondary and Subordinate Bus Number of a bridge (Bridge 1.2, 3.2.5)
abbrev pub primary_bus : List ℕ → ℕ
primary_bus image = byte_at image PRIMARY_BUS

abbrev pub secondary_bus : List ℕ → ℕ
secondary_bus image = byte_at image SECONDARY_BUS

abbrev pub subordinate_bus : List ℕ → ℕ
subordinate_bus image = byte_at image SUBORDINATE_BUS

-- Bridge Control (Bridge 1.2, 3.2.5)
abbrev pub bridge_control : List ℕ → ℕ
bridge_control image = number_at image BRIDGE_CONTROL 2

-- how many Base Address registers a header has: six, and two on a bridge
abbrev pub bar_count : ℕ → ℕ
bar_count kind = if kind == 1 then 2 else 6

-- the offset of Base Address register n
abbrev pub bar_register : ℕ → ℕ
bar_register n = BASE_ADDRESS + 4 * n

-- the offset of the Expansion ROM Base Address register of a bridge, or of a device
abbrev pub rom_place : Bool → ℕ
rom_place bridge = if bridge then BRIDGE_EXPANSION_ROM else EXPANSION_ROM

-- the same by the layout
abbrev pub rom_register : ℕ → ℕ
rom_register kind = rom_place (kind == 1)

-- the registers that address decoding is set by, each with its width in bytes, of a bridge or of a device
abbrev pub registers_by : Bool → List (ℕ × ℕ)
registers_by bridge = if bridge then addresses_of bridge_header else addresses_of device_header

-- the same by the layout
abbrev pub address_registers : ℕ → List (ℕ × ℕ)
address_registers kind = registers_by (kind == 1)

-- whether a byte lies in a register of so many bytes
abbrev pub is_in_register : ℕ → (ℕ × ℕ) → Bool
is_in_register offset r = nat_le r.0 offset && nat_lt offset (r.0 + r.1)
