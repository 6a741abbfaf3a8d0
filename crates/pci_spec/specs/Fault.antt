-- What is wrong with a system, and what it means that a fault is there.
use Rattle.std.specs.Prelude.{◌≡◌, ◌≢◌, ◌⊎◌, ℕ, ◌<◌, ◌==◌, nat_lt, Bool, false, ◌&&◌, ◌||◌, not, IsTrue, IsFalse, List, codes, Some}
use Rattle.std.specs.List.{list_any, Contains}
use Rattle.pci_spec.specs.Number.{byte_at, has_bit}
use Rattle.pci_spec.specs.Slot.{Slot}
use Rattle.pci_spec.specs.Registers.{PALETTE_SNOOP, ISA_ENABLE, VGA_ENABLE, SECONDARY_BUS_RESET}
use Rattle.pci_spec.specs.Header.{vendor_id, command, class_code, layout, bridge_control, bar_register, bar_count, rom_register, address_registers, is_in_register}
use Rattle.pci_spec.specs.Bar.{BarFault, bar_fault}
use Rattle.pci_spec.specs.Bar as bars
use Rattle.pci_spec.specs.Rom.{breaks_rom_rule}
use Rattle.pci_spec.specs.Window.{WindowKind, window_register, breaks_window_rule}
use Rattle.pci_spec.specs.Capability.{ComesTo, ComesTwiceTo, HasLowPlace, HasCutBody, POWER_MANAGEMENT, capability_id, power_state}
use Rattle.pci_spec.specs.Text.{Block, slots_of}
use Rattle.pci_spec.specs.System.{System, Function, system_of, Space, Part, Claims, register_of, is_window, is_prefetchable_part, is_bridge, Leads, Gets, passes}
use Rattle.pci_spec.specs.Bus.{has_lawful_buses, is_led_to}

-- ---- what a fault names

-- an address, with its space
pub record Address : Type 0 where
  pub space : Space
  pub address : ℕ

-- a region, by the slot of its function and its register
pub record RegionName : Type 0 where
  pub slot : Slot
  pub register : ℕ

pub record TwoRegions : Type 0 where
  pub first : RegionName
  pub second : RegionName

abbrev pub address_in : Space → ℕ → Address
address_in space address = record { space = space; address = address }

abbrev pub named_region : Slot → ℕ → RegionName
named_region slot register = record { slot = slot; register = register }

abbrev pub named_regions : Slot → ℕ → Slot → ℕ → TwoRegions
named_regions first first_register second second_register = record {
  first = named_region first first_register;
  second = named_region second second_register;
}

-- ---- faults of the profile

-- A function isn't judged with one of these, which its image shows: of its Command, of a bridge's Bridge Control or Class
-- Code, or of its capabilities list.
pub data ProfileFault : Type 0 where
  PaletteSnoop VgaEnable IsaEnable Subtractive InReset PowerState : ProfileFault

-- their numbers,
abbrev pub profile_number : ProfileFault → ℕ
profile_number PaletteSnoop = 51
profile_number VgaEnable = 52
profile_number IsaEnable = 53
profile_number Subtractive = 54
profile_number InReset = 55
profile_number PowerState = 56

-- names,
abbrev pub profile_name : ProfileFault → List ℕ
profile_name PaletteSnoop = codes "PaletteSnoop"
profile_name VgaEnable = codes "VgaEnable"
profile_name IsaEnable = codes "IsaEnable"
profile_name Subtractive = codes "Subtractive"
profile_name InReset = codes "InReset"
profile_name PowerState = codes "PowerState"

-- and places in the order in which they are looked for in a function
abbrev pub profile_key : ProfileFault → ℕ
profile_key PaletteSnoop = 0
profile_key VgaEnable = 1
profile_key IsaEnable = 2
profile_key Subtractive = 3
profile_key InReset = 4
profile_key PowerState = 5

-- ---- all faults

-- a fault, with the function and the register that it names
pub data Fault : Type 0 where
  NoVendor : (slot : Slot) → Fault
  HeaderKind : (slot : Slot) → Fault
  BarType : (slot : Slot) (register : ℕ) → Fault
  BarMask : (slot : Slot) (register : ℕ) → Fault
  BarPair : (slot : Slot) (register : ℕ) → Fault
  RomMask : (slot : Slot) (register : ℕ) → Fault
  WindowMask : (slot : Slot) (register : ℕ) → Fault
  CapRange : (slot : Slot) (place : ℕ) → Fault
  CapLoop : (slot : Slot) (place : ℕ) → Fault
  CapCut : (slot : Slot) (place : ℕ) → Fault
  SlotsDiffer : (slot : Slot) → Fault
  StrayProbe : (slot : Slot) (offset : ℕ) → Fault
  LoneFunction : (slot : Slot) → Fault
  OfProfile : (fault : ProfileFault) (slot : Slot) → Fault
  BusRange : (slot : Slot) → Fault
  Orphan : (slot : Slot) → Fault
  Unreached : (slot : Slot) (register : ℕ) (space : Space) (address : ℕ) (bridge : Slot) → Fault
  Clash : (bus : ℕ) (space : Space) (address : ℕ) (first : Slot) (first_register : ℕ)
      (second : Slot) (second_register : ℕ) → Fault
  Split : (space : Space) (address : ℕ) (first : Slot) (first_register : ℕ) (second : Slot)
      (second_register : ℕ) → Fault

abbrev pub fault_number : Fault → ℕ
fault_number (NoVendor slot) = 20
fault_number (HeaderKind slot) = 21
fault_number (BarType slot register) = 22
fault_number (BarMask slot register) = 23
fault_number (BarPair slot register) = 24
fault_number (RomMask slot register) = 25
fault_number (WindowMask slot register) = 26
fault_number (CapRange slot place) = 27
fault_number (CapLoop slot place) = 28
fault_number (CapCut slot place) = 29
fault_number (SlotsDiffer slot) = 30
fault_number (StrayProbe slot offset) = 31
fault_number (LoneFunction slot) = 50
fault_number (OfProfile fault slot) = profile_number fault
fault_number (BusRange slot) = 57
fault_number (Orphan slot) = 58
fault_number (Unreached slot register space address bridge) = 60
fault_number (Clash bus space address first first_register second second_register) = 61
fault_number (Split space address first first_register second second_register) = 62

-- ---- of one function, by its image and its probe

abbrev pub has_no_vendor : List ℕ → Bool
has_no_vendor image = vendor_id image == 0xffff

abbrev pub has_other_layout : List ℕ → Bool
has_other_layout image = not (layout image == 0 || layout image == 1)

-- a BAR register with this offset has this fault
abbrev pub HasBarFault : List ℕ → List ℕ → ℕ → BarFault → Type 0
HasBarFault image probe register fault =
    (n : ℕ) × (n < bar_count (layout image)) × (register ≡ bar_register n)
    × (bar_fault image probe n ≡ Some fault)

abbrev pub HasRomFault : List ℕ → List ℕ → ℕ → Type 0
HasRomFault image probe register =
    (register ≡ rom_register (layout image)) × IsTrue (breaks_rom_rule image probe)

-- the window of a bridge with this offset breaks its rule
abbrev pub HasWindowFault : List ℕ → List ℕ → ℕ → Type 0
HasWindowFault image probe register =
    (kind : WindowKind) × IsTrue (layout image == 1) × (register ≡ window_register kind)
    × IsTrue (breaks_window_rule kind image probe)

-- whether an offset lies in an address register
abbrev pub is_in_address_register : ℕ → ℕ → Bool
is_in_address_register kind offset = list_any (is_in_register offset) (address_registers kind)

-- whether the probe of a header of this layout has a byte where there is no address register
abbrev pub is_stray_by : ℕ → List ℕ → ℕ → Bool
is_stray_by kind probe offset =
    nat_lt offset 256 && not (byte_at probe offset == 0) && not (is_in_address_register kind offset)

-- the same, of a function
abbrev pub is_stray : List ℕ → List ℕ → ℕ → Bool
is_stray image = is_stray_by (layout image)

-- whether it is that of a bridge whose Bridge Control has this bit
abbrev pub controls_bridge : List ℕ → ℕ → Bool
controls_bridge image i = layout image == 1 && has_bit (bridge_control image) i

-- whether it is that of a bridge that decodes what no other function takes, by its Class Code
abbrev pub is_subtractive_bridge : List ℕ → Bool
is_subtractive_bridge image = layout image == 1 && class_code image == 0x060401

-- a capability at a place shows another power state than D0
abbrev pub IsNotInD0At : List ℕ → ℕ → Type 0
IsNotInD0At image place =
    (capability_id image place ≡ POWER_MANAGEMENT) × (power_state image place ≢ 0)

-- and one that the walk comes to does
abbrev pub IsNotInD0 : List ℕ → Type 0
IsNotInD0 image = (place : ℕ) × ComesTo image place × IsNotInD0At image place

-- what each fault of the profile means of an image
abbrev pub HasProfileFault : List ℕ → ProfileFault → Type 0
HasProfileFault image PaletteSnoop = IsTrue (has_bit (command image) PALETTE_SNOOP)
HasProfileFault image VgaEnable = IsTrue (controls_bridge image VGA_ENABLE)
HasProfileFault image IsaEnable = IsTrue (controls_bridge image ISA_ENABLE)
HasProfileFault image Subtractive = IsTrue (is_subtractive_bridge image)
HasProfileFault image InReset = IsTrue (controls_bridge image SECONDARY_BUS_RESET)
HasProfileFault image PowerState = IsNotInD0 image

-- none of them is there: a bridge, where the image is one, passes no VGA or ISA accesses of its own, decodes its windows
-- alone, and isn't in reset,
pub record IsPlainBridge (image : List ℕ) : Type 0 where
  pub vga : IsFalse (controls_bridge image VGA_ENABLE)
  pub isa : IsFalse (controls_bridge image ISA_ENABLE)
  pub subtractive : IsFalse (is_subtractive_bridge image)
  pub reset : IsFalse (controls_bridge image SECONDARY_BUS_RESET)

-- and any function answers its address registers alone, and is in D0
pub record IsPlainImage (image : List ℕ) : Type 0 where
  pub palette : IsFalse (has_bit (command image) PALETTE_SNOOP)
  pub bridge : IsPlainBridge image
  pub awake : IsNotInD0 image → ⊥

-- ---- of a system

-- the function at the slot is such
abbrev pub SomeAt : System → Slot → (Function → Type 0) → Type 0
SomeAt s slot P = (f : Function) × Contains s f × (f.slot ≡ slot) × P f

-- whether function 0 of the same device is listed
abbrev pub has_function_zero : System → Slot → Bool
has_function_zero s slot =
    list_any (λ f. f.slot.bus == slot.bus && f.slot.device == slot.device && f.slot.function == 0) s

-- An enabled BAR or ROM claims the address, and a bridge on the way from a root to it doesn't pass it.
pub record IsUnreached (roots : List ℕ) (s : System) (region : RegionName) (at : Address)
    (bridge : Slot) : Type 0 where
  pub f : Function
  pub part : Part
  pub listed : Contains s f
  pub named : (f.slot ≡ region.slot) × (register_of f part ≡ region.register)
  pub no_window : is_window part ≡ false
  pub claims : Claims f part at.space at.address
  pub bridges : List Function
  pub root : ℕ
  pub starts : Contains roots root
  pub leads : Leads s root bridges region.slot.bus
  pub b : Function
  pub on_the_way : Contains bridges b
  pub named_bridge : b.slot ≡ bridge
  pub stops : passes at.space (is_prefetchable_part f part) at.address b ≡ false

-- a region of the bus, named by its slot and register, claims the address
abbrev pub ClaimsOnBus : System → ℕ → Address → RegionName → Type 0
ClaimsOnBus s bus at region =
    (f : Function) × (part : Part) × Contains s f × (f.slot ≡ region.slot) × (region.slot.bus ≡ bus)
    × (register_of f part ≡ region.register) × Claims f part at.space at.address

-- an access to the address gets to the bus, and two regions of the bus claim it
pub record IsClash (roots : List ℕ) (s : System) (bus : ℕ) (at : Address)
    (two : TwoRegions) : Type 0 where
  pub gets : Gets roots s at.space at.address bus
  pub claims_first : ClaimsOnBus s bus at two.first
  pub claims_second : ClaimsOnBus s bus at two.second
  pub differ : (two.first.slot ≡ two.second.slot) × (two.first.register ≡ two.second.register) → ⊥

-- two regions on two root buses claim the address
pub record IsSplit (roots : List ℕ) (s : System) (at : Address) (two : TwoRegions) : Type 0 where
  pub root_first : Contains roots two.first.slot.bus
  pub root_second : Contains roots two.second.slot.bus
  pub buses : two.first.slot.bus ≢ two.second.slot.bus
  pub claims_first : ClaimsOnBus s two.first.slot.bus at two.first
  pub claims_second : ClaimsOnBus s two.second.slot.bus at two.second

-- the fault is there, in the system with these root buses
abbrev pub IsIn : List ℕ → System → Fault → Type 0
IsIn roots s (NoVendor slot) = SomeAt s slot (λ f. IsTrue (has_no_vendor f.image))
IsIn roots s (HeaderKind slot) = SomeAt s slot (λ f. IsTrue (has_other_layout f.image))
IsIn roots s (BarType slot register) =
    SomeAt s slot (λ f. HasBarFault f.image f.probe register bars.BarType)
IsIn roots s (BarMask slot register) =
    SomeAt s slot (λ f. HasBarFault f.image f.probe register bars.BarMask)
IsIn roots s (BarPair slot register) =
    SomeAt s slot (λ f. HasBarFault f.image f.probe register bars.BarPair)
IsIn roots s (RomMask slot register) = SomeAt s slot (λ f. HasRomFault f.image f.probe register)
IsIn roots s (WindowMask slot register) =
    SomeAt s slot (λ f. HasWindowFault f.image f.probe register)
IsIn roots s (CapRange slot place) = SomeAt s slot (λ f. HasLowPlace f.image place)
IsIn roots s (CapLoop slot place) = SomeAt s slot (λ f. ComesTwiceTo f.image place)
IsIn roots s (CapCut slot place) = SomeAt s slot (λ f. HasCutBody f.image place)
-- a system has each function's two images
IsIn roots s (SlotsDiffer slot) = ⊥
IsIn roots s (StrayProbe slot offset) =
    SomeAt s slot (λ f. IsTrue (is_stray f.image f.probe offset))
IsIn roots s (LoneFunction slot) =
    SomeAt s slot (λ f. (0 < slot.function) × IsTrue (not (has_function_zero s slot)))
IsIn roots s (OfProfile fault slot) = SomeAt s slot (λ f. HasProfileFault f.image fault)
IsIn roots s (BusRange slot) =
    SomeAt s slot (λ f. IsTrue (is_bridge f && not (has_lawful_buses roots s f)))
IsIn roots s (Orphan slot) = SomeAt s slot (λ f. IsTrue (not (is_led_to roots s slot.bus)))
IsIn roots s (Unreached slot register space address bridge) =
    IsUnreached roots s (named_region slot register) (address_in space address) bridge
IsIn roots s (Clash bus space address first first_register second second_register) =
    IsClash roots s bus (address_in space address)
    (named_regions first first_register second second_register)
IsIn roots s (Split space address first first_register second second_register) =
    IsSplit roots s (address_in space address)
    (named_regions first first_register second second_register)

-- exactly one of two dumps lists the slot
abbrev pub IsInOne : List Block → List Block → Slot → Type 0
IsInOne dump probe slot =
    (Contains (slots_of dump) slot × (Contains (slots_of probe) slot → ⊥))
    ⊎ ((Contains (slots_of dump) slot → ⊥) × Contains (slots_of probe) slot)

-- the fault is there, in a dump and its probe; where their slots are the same, they make a system
abbrev pub IsThere : List ℕ → List Block → List Block → Fault → Type 0
IsThere roots dump probe (SlotsDiffer slot) = IsInOne dump probe slot
IsThere roots dump probe fault =
    (slots_of dump ≡ slots_of probe) × IsIn roots (system_of dump probe) fault
