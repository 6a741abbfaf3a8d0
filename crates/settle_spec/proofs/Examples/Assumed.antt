-- Parts whose read backs are assumed.
use Rattle.std.proofs.Common.{◌≡◌, ℕ, [], ◌∷◌, refl, None, Some}
use Rattle.pci_spec.specs.Mark.{assumed_at}
use Rattle.pci_spec.specs.System.{Function, Bar, Rom}
use Rattle.pci_spec.proofs.Examples.Samples.{slot, device, bridge}
use Rattle.settle_spec.specs.Assumed.{assumed_region}
use Rattle.settle_spec.proofs.Examples.Settlings.{plain, over}

-- two BARs, the second of 64 bits
abbrev two_bars : Function
two_bars = device (slot 0 1 0) 0 ((0x14, 4) ∷ []) ((0x10, 0xfff00000) ∷ (0x14, 0xfff00004) ∷ (0x18, 0xffffffff) ∷ [])

-- one that is off is told as well
bar_is_assumed : assumed_region (assumed_at (slot 0 1 0) 0x14 ∷ []) (two_bars ∷ []) ≡ Some record { function = two_bars; part = Bar 1 }
bar_is_assumed = refl

-- of two the lower register is told, whichever is named first
lower_register : assumed_region (assumed_at (slot 0 1 0) 0x14 ∷ assumed_at (slot 0 1 0) 0x10 ∷ []) (two_bars ∷ []) ≡ Some record { function = two_bars; part = Bar 0 }
lower_register = refl

-- and the lower slot
lower_slot : assumed_region (assumed_at (slot 0 2 0) 0x10 ∷ assumed_at (slot 0 1 0) 0x14 ∷ []) (two_bars ∷ plain (slot 0 2 0) 0 0 0xfff00000 ∷ []) ≡ Some record { function = two_bars; part = Bar 1 }
lower_slot = refl

-- no BAR starts at the upper half of another, nor at a register that reads back 0
upper_half : assumed_region (assumed_at (slot 0 1 0) 0x18 ∷ []) (two_bars ∷ []) ≡ None
upper_half = refl

no_bar : assumed_region (assumed_at (slot 0 1 0) 0x1c ∷ []) (two_bars ∷ []) ≡ None
no_bar = refl

-- another function's register is no matter
of_another_slot : assumed_region (assumed_at (slot 0 2 0) 0x10 ∷ []) (two_bars ∷ []) ≡ None
of_another_slot = refl

-- a window has no size of its own
window : assumed_region (assumed_at (slot 0 1 0) 0x20 ∷ []) (over 2 0xe000e000 ∷ []) ≡ None
window = refl

-- a ROM counts where it is on, at 30h of a device and at 38h of a bridge
abbrev with_rom : ℕ → Function
with_rom value = device (slot 0 1 0) 2 ((0x30, value) ∷ []) ((0x30, 0xffff0000) ∷ [])

rom_is_on : assumed_region (assumed_at (slot 0 1 0) 0x30 ∷ []) (with_rom 0xe0000001 ∷ []) ≡ Some record { function = with_rom 0xe0000001; part = Rom }
rom_is_on = refl

rom_is_off : assumed_region (assumed_at (slot 0 1 0) 0x30 ∷ []) (with_rom 0xe0000000 ∷ []) ≡ None
rom_is_off = refl

abbrev bridge_with_rom : Function
bridge_with_rom = bridge (slot 0 1 0) 2 0x10100 ((0x20, 0xfff0) ∷ (0x38, 0xe0000001) ∷ []) ((0x38, 0xffff0000) ∷ [])

rom_of_a_bridge : assumed_region (assumed_at (slot 0 1 0) 0x38 ∷ []) (bridge_with_rom ∷ []) ≡ Some record { function = bridge_with_rom; part = Rom }
rom_of_a_bridge = refl
