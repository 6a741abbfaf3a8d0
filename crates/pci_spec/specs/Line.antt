-- How faults, verdicts and writes are printed.
use Rattle.std.specs.Prelude.{ℕ, zero, suc, ◌+◌, ◌/◌, ◌%◌, List, [], ◌∷◌, ◌++◌, codes, Option, None, Some}
use Rattle.pci_spec.specs.Slot.{Slot}
use Rattle.pci_spec.specs.Text.{hex_digit, hex_byte, slot_text}
use Rattle.pci_spec.specs.Window.{WindowKind, IoWindow, MemoryWindow, PrefetchWindow}
use Rattle.pci_spec.specs.System.{Space, Io, Memory}
use Rattle.pci_spec.specs.Fault.{Fault, fault_number, profile_name, NoVendor, HeaderKind, BarType, BarMask, BarPair, RomMask, WindowMask, CapRange, CapLoop, CapCut, SlotsDiffer, StrayProbe, LoneFunction, OfProfile, BusRange, Orphan, Unreached, Clash, Split}
use Rattle.pci_spec.specs.Machine.{Write}

-- a number in so many hex digits
abbrev pub hex_number : ℕ → ℕ → List ℕ
hex_number zero n = []
hex_number (suc digits) n = hex_number digits (n / 16) ++ hex_digit (n % 16) ∷ []

-- a number below 100 in two decimal digits
abbrev pub two_digits : ℕ → List ℕ
two_digits n = (48 + n / 10) ∷ (48 + n % 10) ∷ []

-- a space, and a field
abbrev pub field : List ℕ → List ℕ
field text = 32 ∷ text

abbrev pub slot_field : Slot → List ℕ
slot_field slot = field (slot_text slot)

abbrev pub byte_field : ℕ → List ℕ
byte_field n = field (hex_byte n)

-- a function and a register in it
abbrev pub region_text : Slot → ℕ → List ℕ
region_text slot register = slot_text slot ++ byte_field register

abbrev pub region_field : Slot → ℕ → List ℕ
region_field slot register = field (region_text slot register)

-- two regions
abbrev pub regions_text : Slot → ℕ → Slot → ℕ → List ℕ
regions_text first first_register second second_register =
    region_text first first_register ++ region_field second second_register

abbrev pub space_text : Space → List ℕ
space_text Io = codes "io"
space_text Memory = codes "mem"

-- an address: 8 digits in I/O space, 16 in memory space
abbrev pub address_text : Space → ℕ → List ℕ
address_text Io address = hex_number 8 address
address_text Memory address = hex_number 16 address

-- a space and an address of it
abbrev pub place_text : Space → ℕ → List ℕ
place_text space address = space_text space ++ field (address_text space address)

abbrev pub place_field : Space → ℕ → List ℕ
place_field space address = field (place_text space address)

-- a fault's name
abbrev pub fault_name : Fault → List ℕ
fault_name (NoVendor slot) = codes "NoVendor"
fault_name (HeaderKind slot) = codes "HeaderKind"
fault_name (BarType slot register) = codes "BarType"
fault_name (BarMask slot register) = codes "BarMask"
fault_name (BarPair slot register) = codes "BarPair"
fault_name (RomMask slot register) = codes "RomMask"
fault_name (WindowMask slot register) = codes "WindowMask"
fault_name (CapRange slot place) = codes "CapRange"
fault_name (CapLoop slot place) = codes "CapLoop"
fault_name (CapCut slot place) = codes "CapCut"
fault_name (SlotsDiffer slot) = codes "SlotsDiffer"
fault_name (StrayProbe slot offset) = codes "StrayProbe"
fault_name (LoneFunction slot) = codes "LoneFunction"
fault_name (OfProfile fault slot) = profile_name fault
fault_name (BusRange slot) = codes "BusRange"
fault_name (Orphan slot) = codes "Orphan"
fault_name (Unreached slot register space address bridge) = codes "Unreached"
fault_name (Clash bus space address first first_register second second_register) = codes "Clash"
fault_name (Split space address first first_register second second_register) = codes "Split"

-- what a fault names: a function, the register, offset or place in it, and for faults of judging address and regions
abbrev pub fault_fields : Fault → List ℕ
fault_fields (NoVendor slot) = slot_field slot
fault_fields (HeaderKind slot) = slot_field slot
fault_fields (BarType slot register) = region_field slot register
fault_fields (BarMask slot register) = region_field slot register
fault_fields (BarPair slot register) = region_field slot register
fault_fields (RomMask slot register) = region_field slot register
fault_fields (WindowMask slot register) = region_field slot register
fault_fields (CapRange slot place) = region_field slot place
fault_fields (CapLoop slot place) = region_field slot place
fault_fields (CapCut slot place) = region_field slot place
fault_fields (SlotsDiffer slot) = slot_field slot
fault_fields (StrayProbe slot offset) = region_field slot offset
fault_fields (LoneFunction slot) = slot_field slot
fault_fields (OfProfile fault slot) = slot_field slot
fault_fields (BusRange slot) = slot_field slot
fault_fields (Orphan slot) = slot_field slot
fault_fields (Unreached slot register space address bridge) =
    region_field slot register ++ place_field space address ++ field (codes "bridge")
    ++ slot_field bridge
fault_fields (Clash bus space address first first_register second second_register) =
    field (codes "bus") ++ byte_field bus ++ place_field space address
    ++ field (regions_text first first_register second second_register)
fault_fields (Split space address first first_register second second_register) =
    place_field space address ++ field (regions_text first first_register second second_register)

-- a fault's number, name and fields
abbrev pub fault_text : Fault → List ℕ
fault_text fault = two_digits (fault_number fault) ++ field (fault_name fault) ++ fault_fields fault

-- a window of a bridge, or the pool of what goes through it
abbrev pub window_name : WindowKind → List ℕ
window_name IoWindow = codes "io"
window_name MemoryWindow = codes "mem"
window_name PrefetchWindow = codes "pref"

-- the line of a verdict: yes, or no with a fault
abbrev pub verdict_line : Option Fault → List ℕ
verdict_line None = codes "yes" ++ 10 ∷ []
verdict_line (Some fault) = codes "no" ++ field (fault_text fault) ++ 10 ∷ []

-- the line of a write: slot, offset, width and value
abbrev pub write_line : Write → List ℕ
write_line w =
    slot_text w.slot ++ byte_field w.offset
    ++ (46 ∷ hex_digit w.width ∷ field (hex_number (w.width + w.width) w.value)) ++ 10 ∷ []
