-- What is settled with told lines is settled already: nothing is written again.
use Rattle.std.proofs.Common.{◌≡◌, [], ◌∷◌, refl, true}
use Rattle.pci_spec.specs.System.{System}
use Rattle.pci_spec.proofs.Examples.Samples.{slot}
use Rattle.judge_spec.specs.Told.{Command, Always, Held}
use Rattle.judge_spec.specs.ToldClaims.{Told}
use Rattle.judge_spec.proofs.Examples.ToldClaims.{told_io, told_memory, told_ranges}
use Rattle.settle_spec.specs.Lists.{Request}
use Rattle.settle_spec.specs.Items.{window_within, holds_within}
use Rattle.settle_spec.specs.Writes.{Settled, Settling}
use Rattle.settle_spec.specs.Stands.{stands_within, range_stands_within}
use Rattle.settle_spec.specs.Reach.{reach_within}
use Rattle.settle_spec.specs.Growth.{there_beside, there_within}
use Rattle.settle_spec.specs.Keeping.Places.{placing_within}
use Rattle.settle_spec.specs.Keeping.Registers.{is_live_within, settled}
use Rattle.settle_spec.specs.Growing.{settle_growing, finally_kept}
use Rattle.settle_spec.proofs.Examples.Settlings.{all_roots, plain, over}
use Rattle.settle_spec.proofs.Examples.Growth.{roomy, with_memory}
use Rattle.settle_spec.proofs.Examples.ToldPlaces.{as_told, two_megabytes, beside_device, in_pieces, one_megabyte}
use Rattle.settle_spec.proofs.Examples.ToldKeepsOff.{two_on_root, with_channel_ports, at_channel}
use Rattle.settle_spec.proofs.Examples.ToldCommand.{without_bars, bar_clashes, two_windows}

-- how what is settled is settled again
abbrev pub again : Told → Request → System → Settling
again told q s = settle_growing (as_told told q) (settled (as_told told q) s (finally_kept (as_told told q) s))

-- a window that grew, and the same at its beginning
window_that_grew : again (told_ranges (told_memory (slot 1 0 0) 0xe0004000 0xe01fffff Always ∷ [])) roomy two_megabytes
    ≡ Settled []
unfolding stands_within range_stands_within window_within holds_within reach_within there_beside there_within placing_within is_live_within
window_that_grew = refl

window_that_grew_down : again (told_ranges (told_memory (slot 1 0 0) 0xe0004000 0xe01fffff Always ∷ [])) (with_memory (all_roots 0xdff00000 0xe0ffffff ∷ [])) beside_device
    ≡ Settled []
unfolding stands_within range_stands_within window_within holds_within reach_within there_beside there_within placing_within is_live_within
window_that_grew_down = refl

-- all of a window placed anew
placed_anew : again (told_ranges (told_memory (slot 1 0 0) 0xe0100000 0xe01fffff Always ∷ [])) (record roomy { anew = true }) in_pieces
    ≡ Settled []
unfolding stands_within range_stands_within window_within holds_within reach_within there_beside there_within placing_within is_live_within
placed_anew = refl

-- what a `held` line kept off
moved_off : again (told_ranges (told_memory (slot 0 0x1f 1) 0xe0000000 0xe0000fff Held ∷ [])) roomy two_on_root
    ≡ Settled []
unfolding stands_within range_stands_within window_within holds_within reach_within there_beside there_within placing_within is_live_within
moved_off = refl

-- a device with room of its own
beside_its_room : again (told_ranges (told_memory (slot 0 2 0) 0xe0000000 0xe01fffff Held ∷ [])) roomy two_on_root
    ≡ Settled []
unfolding stands_within range_stands_within window_within holds_within reach_within there_beside there_within placing_within is_live_within
beside_its_room = refl

-- a new window off what is behind it
new_window : again (told_ranges (told_memory (slot 1 0x1f 0) 0xe0000000 0xe0000fff Held ∷ [])) roomy (over 0 0xfff0 ∷ plain (slot 1 0 0) 0 0 0xfff00000 ∷ [])
    ≡ Settled []
unfolding stands_within range_stands_within window_within holds_within reach_within there_beside there_within placing_within is_live_within
new_window = refl

-- what moved off a range that is off
off_range : again (told_ranges (told_io (slot 0 5 0) 0x1f0 0x1f7 Command ∷ [])) with_channel_ports (at_channel 0)
    ≡ Settled []
unfolding stands_within range_stands_within window_within holds_within reach_within there_beside there_within placing_within is_live_within
off_range = refl

-- a bridge that was switched on
bridge_on : again (told_ranges (told_memory (slot 1 0 0) 0xe0000000 0xe0003fff Command ∷ [])) roomy (over 0 0xe000e000 ∷ without_bars ∷ [])
    ≡ Settled []
unfolding stands_within range_stands_within window_within holds_within reach_within there_beside there_within placing_within is_live_within
bridge_on = refl

-- a device that moved for a bridge
other_bar : again (told_ranges (told_memory (slot 1 0 0) 0xe0000000 0xe0003fff Always ∷ [])) roomy bar_clashes
    ≡ Settled []
unfolding stands_within range_stands_within window_within holds_within reach_within there_beside there_within placing_within is_live_within
other_bar = refl

-- two windows of which one led to what is told
window_that_led : again (told_ranges (told_memory (slot 1 0 0) 0xe0004000 0xe000bfff Always ∷ [])) roomy two_windows
    ≡ Settled []
unfolding stands_within range_stands_within window_within holds_within reach_within there_beside there_within placing_within is_live_within
window_that_led = refl

-- a window that moved from over a told range of its bridge
off_its_own_range : again (told_ranges (told_memory (slot 0 1 0) 0xe0080000 0xe0080fff Always ∷ [])) roomy one_megabyte
    ≡ Settled []
unfolding stands_within range_stands_within window_within holds_within reach_within there_beside there_within placing_within is_live_within
off_its_own_range = refl
