-- Images with some of their bytes changed.
use Rattle.std.specs.Prelude.{ℕ, zero, suc, ◌+◌, ◌*◌, ◌/◌, ◌%◌, List, [], ◌∷◌, set}
use Rattle.pci_spec.specs.Number.{byte_at}
use Rattle.pci_spec.specs.Registers.{COMMAND, STATUS, INTERFACE, HEADER_TYPE, BASE_ADDRESS, EXPANSION_ROM, PRIMARY_BUS, BRIDGE_CONTROL, BRIDGE_EXPANSION_ROM}
use Rattle.pci_spec.specs.Bar.{BarKind, IoBar, Memory32, Memory64, Reserved}
use Rattle.pci_spec.specs.Decoded.{DecodedBar}

-- so many bytes from an offset on are 0
abbrev pub cleared : ℕ → ℕ → List ℕ → List ℕ
cleared offset zero image = image
cleared offset (suc count) image = set (cleared offset count image) (offset + count) 0

-- Command enables neither space, and Status says that there is no capabilities list (PCI 3.0, 6.2.2 and 6.2.3)
abbrev pub switched_off : List ℕ → List ℕ
switched_off image =
    set (set image COMMAND (byte_at image COMMAND / 4 * 4)) STATUS
    (byte_at image STATUS / 32 * 32 + byte_at image STATUS % 16)

-- Bridge Control without Secondary Bus Reset (Bridge 1.2, 3.2.5.18)
abbrev pub out_of_reset : List ℕ → List ℕ
out_of_reset image =
    set image BRIDGE_CONTROL
    (byte_at image BRIDGE_CONTROL / 128 * 128 + byte_at image BRIDGE_CONTROL % 64)

-- the interface of a bridge that decodes its windows alone (PCI 3.0, appendix D)
abbrev pub positive : List ℕ → List ℕ
positive image = set image INTERFACE 0

-- a header of type 0 with the BARs of a bridge: its numbers and windows, 18h to 33h, are left out
abbrev pub as_device : List ℕ → List ℕ
as_device image =
    set (cleared PRIMARY_BUS 28 image) HEADER_TYPE (byte_at image HEADER_TYPE / 128 * 128)

-- what reads back of it: its ROM is left out too
abbrev pub device_read_backs : List ℕ → List ℕ
device_read_backs probe = cleared BRIDGE_EXPANSION_ROM 4 (cleared PRIMARY_BUS 28 probe)

-- the address registers of a header of type 0, 10h to 27h and 30h to 33h, show 0 (PCI 3.0, 6.1)
abbrev pub without_registers : List ℕ → List ℕ
without_registers image = cleared EXPANSION_ROM 4 (cleared BASE_ADDRESS 24 image)

-- Status says that there is no capabilities list (PCI 3.0, 6.2.3)
abbrev pub without_list : List ℕ → List ℕ
without_list image =
    set image STATUS (byte_at image STATUS / 32 * 32 + byte_at image STATUS % 16)

-- a header of type 0 without address registers and without a capabilities list, whatever the layout was
abbrev pub as_bare_device : List ℕ → List ℕ
as_bare_device image =
    without_list
    (set (without_registers image) HEADER_TYPE (byte_at image HEADER_TYPE / 128 * 128))

-- the bytes of a BAR's registers
abbrev pub width_of : BarKind → ℕ
width_of IoBar = 4
width_of Memory32 = 4
width_of Memory64 = 8
width_of Reserved = 4

-- the registers of these BARs show 0
abbrev pub without_bars : List DecodedBar → List ℕ → List ℕ
without_bars [] image = image
without_bars (bar ∷ bars) image =
    without_bars bars (cleared bar.register (width_of bar.kind) image)
