-- Which of several faults is named: phases come before slots, and slots before what stands in a function.
use Rattle.std.proofs.Common.{◌≡◌, ℕ, List, [], ◌∷◌, refl, Bool, true, false, map}
use Rattle.pci_spec.specs.Slot.{Slot}
use Rattle.pci_spec.specs.System.{Io, Memory}
use Rattle.pci_spec.specs.Fault.{Fault, NoVendor, HeaderKind, BarType, BarMask, BarPair, RomMask, WindowMask, CapRange, CapLoop, CapCut, SlotsDiffer, StrayProbe, LoneFunction, OfProfile, PaletteSnoop, VgaEnable, IsaEnable, Subtractive, InReset, PowerState, BusRange, Orphan, Unreached, Clash, Split}
use Rattle.pci_spec.specs.Order.{looking_key, precedes, steps_at}
use Rattle.pci_spec.proofs.Examples.Samples.{slot, blank, put_bytes}

abbrev low : Slot
low = slot 0 1 0

abbrev high : Slot
high = slot 3 2 1

-- a list from 80h to 40h and back to 80h
abbrev looped : List ℕ
looped = put_bytes ((0x06, 0x10) ∷ (0x34, 0x80) ∷ (0x81, 0x40) ∷ (0x41, 0x80) ∷ []) (blank 0 0)

-- whether each fault is looked for before the next one
abbrev in_order : List Fault → Bool
in_order [] = true
in_order (a ∷ []) = true
in_order (a ∷ b ∷ rest) = and (precedes (looking_key (λ s. looped) a) (looking_key (λ s. looped) b)) (in_order (b ∷ rest))
  where
    and : Bool → Bool → Bool
    and true q = q
    and false q = false

phases_come_first : in_order (SlotsDiffer high ∷ NoVendor high ∷ BarMask high 0x10 ∷ OfProfile PaletteSnoop high ∷ LoneFunction high
    ∷ Unreached high 0x10 Io 9 low ∷ Clash 9 Memory 9 high 0x10 high 0x14 ∷ Split Io 0 low 0x10 high 0x10 ∷ []) ≡ true
phases_come_first = refl

lists_that_differ_by_slot : in_order (SlotsDiffer (slot 0 1 0) ∷ SlotsDiffer (slot 0 1 1) ∷ SlotsDiffer (slot 0 2 0) ∷ SlotsDiffer (slot 1 0 0) ∷ []) ≡ true
lists_that_differ_by_slot = refl

identity_by_slot_then_kind : in_order (StrayProbe low 0xff ∷ NoVendor high ∷ HeaderKind high ∷ StrayProbe high 0x00 ∷ StrayProbe high 0x3d ∷ []) ≡ true
identity_by_slot_then_kind = refl

decoding_by_register_then_rom_windows_and_list : in_order (CapCut low 0xfc ∷ BarMask high 0x10 ∷ BarType high 0x14 ∷ BarPair high 0x24 ∷ RomMask high 0x30
    ∷ WindowMask high 0x1c ∷ WindowMask high 0x20 ∷ WindowMask high 0x24 ∷ CapCut high 0x80 ∷ []) ≡ true
decoding_by_register_then_rom_windows_and_list = refl

places_in_the_order_of_the_walk : in_order (CapCut high 0x80 ∷ CapRange high 0x40 ∷ CapCut high 0x40 ∷ CapLoop high 0x80 ∷ CapLoop high 0x40 ∷ []) ≡ true
unfolding steps_at
places_in_the_order_of_the_walk = refl

profile_by_number : in_order (OfProfile PowerState low ∷ OfProfile PaletteSnoop high ∷ OfProfile VgaEnable high ∷ OfProfile IsaEnable high ∷ OfProfile Subtractive high ∷ OfProfile InReset high ∷ OfProfile PowerState high ∷ []) ≡ true
profile_by_number = refl

place_in_the_tree : in_order (BusRange low ∷ LoneFunction high ∷ Orphan high ∷ BusRange high ∷ []) ≡ true
place_in_the_tree = refl

a_later_phase_does_not_precede : in_order (OfProfile PaletteSnoop low ∷ NoVendor high ∷ []) ≡ false
a_later_phase_does_not_precede = refl

-- ---- far along a list

-- a list of ten places, the last of which leads back to the first
abbrev ten : List ℕ
ten = put_bytes ((0x06, 0x10) ∷ (0x34, 0x40) ∷ (0x41, 0x44) ∷ (0x45, 0x48) ∷ (0x49, 0x4c) ∷ (0x4d, 0x50) ∷ (0x51, 0x54) ∷ (0x55, 0x58) ∷ (0x59, 0x5c) ∷ (0x5d, 0x60) ∷ (0x61, 0x64) ∷ (0x65, 0x40) ∷ []) (blank 0 0)

second_visit_after_ten_places : map (λ place. steps_at ten place) (0x64 ∷ []) ≡ (9 ∷ 19 ∷ 29 ∷ 39 ∷ 49 ∷ 59 ∷ 69 ∷ 79 ∷ 89 ∷ 99 ∷ 109 ∷ 119 ∷ []) ∷ []
unfolding steps_at
second_visit_after_ten_places = refl
