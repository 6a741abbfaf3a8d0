-- Told ranges and Command: bridges that are off, bridges whose own BARs move, and windows that lead to what is told.
use Rattle.std.proofs.Common.{◌≡◌, ℕ, [], ◌∷◌, refl}
use Rattle.pci_spec.specs.System.{System, Function}
use Rattle.pci_spec.proofs.Examples.Samples.{slot, device, bridge, write}
use Rattle.judge_spec.specs.Told.{Command, Always}
use Rattle.judge_spec.proofs.Examples.ToldClaims.{told_memory, told_ranges}
use Rattle.settle_spec.specs.Items.{window_within, holds_within}
use Rattle.settle_spec.specs.Writes.{Settled, NotKept}
use Rattle.settle_spec.specs.Stands.{stands_within, range_stands_within}
use Rattle.settle_spec.specs.Reach.{reach_within}
use Rattle.settle_spec.specs.Growth.{there_beside, there_within}
use Rattle.settle_spec.specs.Keeping.Places.{placing_within}
use Rattle.settle_spec.specs.Keeping.Registers.{is_live_within}
use Rattle.settle_spec.specs.Growing.{settle_growing}
use Rattle.settle_spec.proofs.Examples.Settlings.{plain, over}
use Rattle.settle_spec.proofs.Examples.ToldPlaces.{as_told}
use Rattle.settle_spec.proofs.Examples.Growth.{roomy}

-- a function without BARs behind a bridge
abbrev pub without_bars : Function
without_bars = device (slot 1 0 0) 2 [] []

-- a bridge with a BAR, at these addresses
abbrev pub bridge_with_bar : ℕ → Function
bridge_with_bar value = bridge (slot 0 1 0) 2 0x10100 ((0x10, value) ∷ (0x20, 0xe000e000) ∷ []) ((0x10, 0xfffff000) ∷ [])

-- beside a device that has its addresses, too
abbrev pub bar_clashes : System
bar_clashes = bridge_with_bar 0xe0100000 ∷ plain (slot 0 2 0) 2 0xe0100000 0xfff00000 ∷ without_bars ∷ []

-- two bridges whose windows share a megabyte
abbrev pub two_windows : System
two_windows = over 2 0xe000e000 ∷ bridge (slot 0 2 0) 2 0x20200 ((0x20, 0xe010e000) ∷ []) [] ∷ plain (slot 1 0 0) 2 0xe0000000 0xffffc000 ∷ plain (slot 2 0 0) 2 0xe0100000 0xfff00000 ∷ []

-- a bridge that is off is switched on for a `command` range, as its function is shut meanwhile,
bridge_is_off : settle_growing (as_told (told_ranges (told_memory (slot 1 0 0) 0xe0000000 0xe0003fff Command ∷ [])) roomy) (over 0 0xe000e000 ∷ without_bars ∷ [])
    ≡ Settled (write (slot 1 0 0) 0x4 2 0x0 ∷ write (slot 0 1 0) 0x4 2 0x2 ∷ write (slot 1 0 0) 0x4 2 0x2 ∷ [])
unfolding stands_within range_stands_within window_within holds_within reach_within there_beside there_within placing_within is_live_within
bridge_is_off = refl

-- but not for one that is marked `always`
bridge_is_off_above_always : settle_growing (as_told (told_ranges (told_memory (slot 1 0 0) 0xe0000000 0xe0003fff Always ∷ [])) roomy) (over 0 0xe000e000 ∷ without_bars ∷ [])
    ≡ NotKept (slot 1 0 0) 256
unfolding stands_within range_stands_within window_within holds_within reach_within there_beside there_within placing_within is_live_within
bridge_is_off_above_always = refl

-- a bridge's own BAR moves above a `command` range,
bar_of_the_bridge_moves : settle_growing (as_told (told_ranges (told_memory (slot 1 0 0) 0xe0000000 0xe0003fff Command ∷ [])) roomy) bar_clashes
    ≡ Settled (write (slot 1 0 0) 0x4 2 0x0 ∷ write (slot 0 1 0) 0x4 2 0x0 ∷ write (slot 0 1 0) 0x10 4 0xe0200000 ∷ write (slot 0 1 0) 0x4 2 0x2 ∷ write (slot 1 0 0) 0x4 2 0x2 ∷ [])
unfolding stands_within range_stands_within window_within holds_within reach_within there_beside there_within placing_within is_live_within
bar_of_the_bridge_moves = refl

-- and above one that is marked `always` the other BAR does,
other_bar_moves : settle_growing (as_told (told_ranges (told_memory (slot 1 0 0) 0xe0000000 0xe0003fff Always ∷ [])) roomy) bar_clashes
    ≡ Settled (write (slot 0 2 0) 0x4 2 0x0 ∷ write (slot 0 2 0) 0x10 4 0xe0200000 ∷ write (slot 0 2 0) 0x4 2 0x2 ∷ [])
unfolding stands_within range_stands_within window_within holds_within reach_within there_beside there_within placing_within is_live_within
other_bar_moves = refl

-- or nothing is settled
bar_of_the_bridge_has_to_move : settle_growing (as_told (told_ranges (told_memory (slot 1 0 0) 0xe0000000 0xe0003fff Always ∷ [])) roomy) (bridge_with_bar 0xd0000000 ∷ without_bars ∷ [])
    ≡ NotKept (slot 1 0 0) 256
unfolding stands_within range_stands_within window_within holds_within reach_within there_beside there_within placing_within is_live_within
bar_of_the_bridge_has_to_move = refl

-- of two windows at one place that stands which leads to what is told, though smaller
window_that_leads_stands : settle_growing (as_told (told_ranges (told_memory (slot 1 0 0) 0xe0004000 0xe000bfff Always ∷ [])) roomy) two_windows
    ≡ Settled (write (slot 2 0 0) 0x4 2 0x0 ∷ write (slot 0 2 0) 0x20 4 0xfff0 ∷ write (slot 0 2 0) 0x20 4 0xe010e010 ∷ write (slot 2 0 0) 0x4 2 0x2 ∷ [])
unfolding stands_within range_stands_within window_within holds_within reach_within there_beside there_within placing_within is_live_within
window_that_leads_stands = refl

-- a told range that isn't reached is named before a fixed function
told_before_fixed : settle_growing (as_told (told_ranges (told_memory (slot 1 0 0) 0xe0100000 0xe0103fff Always ∷ [])) (record roomy { fixed = slot 1 2 0 ∷ [] })) (over 2 0xe000e000 ∷ plain (slot 1 0 0) 2 0xe0000000 0xffffc000 ∷ plain (slot 1 2 0) 2 0xe0200000 0xfffff000 ∷ [])
    ≡ NotKept (slot 1 0 0) 256
unfolding stands_within range_stands_within window_within holds_within reach_within there_beside there_within placing_within is_live_within
told_before_fixed = refl

-- where nothing is told the larger window stands
window_moves_without_what_is_told : settle_growing (as_told (told_ranges ([])) roomy) two_windows
    ≡ Settled (write (slot 1 0 0) 0x4 2 0x0 ∷ write (slot 0 1 0) 0x20 4 0xfff0 ∷ write (slot 0 1 0) 0x20 4 0xe020e020 ∷ write (slot 1 0 0) 0x10 4 0xe0200000 ∷ write (slot 1 0 0) 0x4 2 0x2 ∷ [])
unfolding stands_within range_stands_within window_within holds_within reach_within there_beside there_within placing_within is_live_within
window_moves_without_what_is_told = refl
