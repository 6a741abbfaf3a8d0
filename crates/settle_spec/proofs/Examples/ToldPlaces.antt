-- What is told keeps its place: what is written to settle small trees, and what is refused.
use Rattle.std.proofs.Common.{◌≡◌, ℕ, [], ◌∷◌, refl, true}
use Rattle.pci_spec.specs.Slot.{Slot}
use Rattle.pci_spec.specs.System.{System, Function, Memory}
use Rattle.pci_spec.proofs.Examples.Samples.{slot, device, bridge, write}
use Rattle.judge_spec.specs.Told.{Mark, Always, ToldRange}
use Rattle.judge_spec.specs.ToldClaims.{Told}
use Rattle.judge_spec.proofs.Examples.ToldClaims.{told_memory, told_ranges}
use Rattle.settle_spec.specs.Lists.{Request}
use Rattle.settle_spec.specs.Items.{window_within, holds_within}
use Rattle.settle_spec.specs.Writes.{Settled, NotKept}
use Rattle.settle_spec.specs.Stands.{stands_within, range_stands_within}
use Rattle.settle_spec.specs.Reach.{reach_within}
use Rattle.settle_spec.specs.Growth.{there_beside, there_within}
use Rattle.settle_spec.specs.Keeping.Places.{placing_within}
use Rattle.settle_spec.specs.Keeping.Registers.{is_live_within}
use Rattle.settle_spec.specs.Growing.{settle_growing}
use Rattle.settle_spec.proofs.Examples.Settlings.{all_roots, plain, over}
use Rattle.settle_spec.proofs.Examples.Growth.{roomy, with_memory, with_prefetch, upper_halves}

abbrev pub told_prefetchable : Slot → ℕ → ℕ → Mark → ToldRange
told_prefetchable at first last mark = record { slot = at; space = Memory; prefetchable = true; first = first; last = last; mark = mark; name = [] }

-- with what is told
abbrev pub as_told : Told → Request → Request
as_told told q = record q { told = told }

-- a device of 16 KB, and one of that size that is plugged in beside it
abbrev pub card : Function
card = plain (slot 1 0 0) 2 0xe0000000 0xffffc000

abbrev pub guest : Function
guest = plain (slot 1 1 0) 0 0 0xffffc000

abbrev pub two_megabytes : System
two_megabytes = over 2 0xe010e000 ∷ card ∷ guest ∷ []

-- a device beside the bridge, behind the end of its window
abbrev pub beside_device : System
beside_device = over 2 0xe010e000 ∷ plain (slot 0 2 0) 2 0xe0200000 0xfff00000 ∷ card ∷ guest ∷ []

-- one whose window is in pieces
abbrev pub in_pieces : System
in_pieces = over 2 0xe010e000 ∷ card ∷ plain (slot 1 1 0) 0 0 0xfff80000 ∷ plain (slot 1 2 0) 2 0xe0080000 0xffffc000 ∷ []

abbrev pub one_megabyte : System
one_megabyte = over 2 0xe000e000 ∷ card ∷ []

-- what is plugged in is placed behind virtual functions,
beside_virtual_functions : settle_growing (as_told (told_ranges (told_memory (slot 1 0 0) 0xe0004000 0xe000bfff Always ∷ [])) roomy) two_megabytes
    ≡ Settled (write (slot 1 1 0) 0x10 4 0xe000c000 ∷ write (slot 1 1 0) 0x4 2 0x2 ∷ [])
unfolding stands_within range_stands_within window_within holds_within reach_within there_beside there_within placing_within is_live_within
beside_virtual_functions = refl

-- and where they fill the window that grows,
window_full_of_them_grows : settle_growing (as_told (told_ranges (told_memory (slot 1 0 0) 0xe0004000 0xe01fffff Always ∷ [])) roomy) two_megabytes
    ≡ Settled (write (slot 0 1 0) 0x20 4 0xe020e000 ∷ write (slot 1 1 0) 0x10 4 0xe0200000 ∷ write (slot 1 1 0) 0x4 2 0x2 ∷ [])
unfolding stands_within range_stands_within window_within holds_within reach_within there_beside there_within placing_within is_live_within
window_full_of_them_grows = refl

-- or nothing is settled: the window over them can't move
full_window_can_not_grow : settle_growing (as_told (told_ranges (told_memory (slot 1 0 0) 0xe0004000 0xe01fffff Always ∷ [])) roomy) beside_device
    ≡ NotKept (slot 1 0 0) 256
unfolding stands_within range_stands_within window_within holds_within reach_within there_beside there_within placing_within is_live_within
full_window_can_not_grow = refl

-- where the range begins earlier it grows there
grows_at_its_beginning : settle_growing (as_told (told_ranges (told_memory (slot 1 0 0) 0xe0004000 0xe01fffff Always ∷ [])) (with_memory (all_roots 0xdff00000 0xe0ffffff ∷ []))) beside_device
    ≡ Settled (write (slot 0 1 0) 0x20 4 0xe010dff0 ∷ write (slot 1 1 0) 0x10 4 0xdfffc000 ∷ write (slot 1 1 0) 0x4 2 0x2 ∷ [])
unfolding stands_within range_stands_within window_within holds_within reach_within there_beside there_within placing_within is_live_within
grows_at_its_beginning = refl

-- a window in pieces grows,
window_in_pieces : settle_growing (as_told (told_ranges (told_memory (slot 1 0 0) 0xe0100000 0xe01fffff Always ∷ [])) roomy) in_pieces
    ≡ Settled (write (slot 0 1 0) 0x20 4 0xe020e000 ∷ write (slot 1 1 0) 0x10 4 0xe0200000 ∷ write (slot 1 1 0) 0x4 2 0x2 ∷ [])
unfolding stands_within range_stands_within window_within holds_within reach_within there_beside there_within placing_within is_live_within
window_in_pieces = refl

-- and where all is placed anew what is told and its window stand
all_anew : settle_growing (as_told (told_ranges (told_memory (slot 1 0 0) 0xe0100000 0xe01fffff Always ∷ [])) (record roomy { anew = true })) in_pieces
    ≡ Settled (write (slot 1 2 0) 0x4 2 0x0 ∷ write (slot 1 0 0) 0x4 2 0x0 ∷ write (slot 1 0 0) 0x10 4 0xe0080000 ∷ write (slot 1 1 0) 0x10 4 0xe0000000 ∷ write (slot 1 2 0) 0x10 4 0xe0084000 ∷ write (slot 1 0 0) 0x4 2 0x2 ∷ write (slot 1 1 0) 0x4 2 0x2 ∷ write (slot 1 2 0) 0x4 2 0x2 ∷ [])
unfolding stands_within range_stands_within window_within holds_within reach_within there_beside there_within placing_within is_live_within
all_anew = refl

-- no window grows to reach a told range
not_reached : settle_growing (as_told (told_ranges (told_memory (slot 1 0 0) 0xe00fc000 0xe0103fff Always ∷ [])) roomy) one_megabyte
    ≡ NotKept (slot 1 0 0) 256
unfolding stands_within range_stands_within window_within holds_within reach_within there_beside there_within placing_within is_live_within
not_reached = refl

-- a window that is in no range of the lists doesn't stand
outside_of_the_lists : settle_growing (as_told (told_ranges (told_memory (slot 1 0 0) 0xd0004000 0xd000bfff Always ∷ [])) roomy) (over 2 0xd010d000 ∷ plain (slot 1 0 0) 2 0xd0000000 0xffffc000 ∷ [])
    ≡ NotKept (slot 1 0 0) 256
unfolding stands_within range_stands_within window_within holds_within reach_within there_beside there_within placing_within is_live_within
outside_of_the_lists = refl

-- a prefetchable window over prefetchable ranges grows
prefetchable_above_4_gb : settle_growing (as_told (told_ranges (told_prefetchable (slot 1 0 0) 0x100100000 0x10017ffff Always ∷ [])) roomy) (bridge (slot 0 1 0) 2 0x10100 ((0x20, 0xfff0) ∷ (0x24, 0x00110001) ∷ (0x28, 1) ∷ (0x2c, 1) ∷ []) upper_halves ∷ device (slot 1 0 0) 2 ((0x10, 0xc) ∷ (0x14, 1) ∷ []) ((0x10, 0xfff0000c) ∷ (0x14, 0xffffffff) ∷ []) ∷ device (slot 1 1 0) 0 ((0x10, 0xc) ∷ []) ((0x10, 0xfff0000c) ∷ (0x14, 0xffffffff) ∷ []) ∷ [])
    ≡ Settled (write (slot 0 1 0) 0x24 4 0x210001 ∷ write (slot 1 1 0) 0x10 4 0x20000c ∷ write (slot 1 1 0) 0x14 4 0x1 ∷ write (slot 1 1 0) 0x4 2 0x2 ∷ [])
unfolding stands_within range_stands_within window_within holds_within reach_within there_beside there_within placing_within is_live_within
prefetchable_above_4_gb = refl

-- a prefetchable range is in a memory window that holds it,
prefetchable_in_memory : settle_growing (as_told (told_ranges (told_prefetchable (slot 1 0 0) 0xe0004000 0xe000bfff Always ∷ [])) roomy) (over 2 0xe000e000 ∷ card ∷ guest ∷ [])
    ≡ Settled (write (slot 1 1 0) 0x10 4 0xe000c000 ∷ write (slot 1 1 0) 0x4 2 0x2 ∷ [])
unfolding stands_within range_stands_within window_within holds_within reach_within there_beside there_within placing_within is_live_within
prefetchable_in_memory = refl

-- but one of plain memory is reached by no prefetchable window
memory_in_prefetchable : settle_growing (as_told (told_ranges (told_memory (slot 1 0 0) 0xe0004000 0xe000bfff Always ∷ [])) (with_prefetch (all_roots 0xe0000000 0xe0ffffff ∷ []))) (bridge (slot 0 1 0) 2 0x10100 ((0x20, 0xfff0) ∷ (0x24, 0xe000e000) ∷ []) ((0x24, 0xfff0fff0) ∷ []) ∷ device (slot 1 0 0) 2 ((0x10, 0xe0000008) ∷ []) ((0x10, 0xffffc008) ∷ []) ∷ [])
    ≡ NotKept (slot 1 0 0) 256
unfolding stands_within range_stands_within window_within holds_within reach_within there_beside there_within placing_within is_live_within
memory_in_prefetchable = refl
