-- Lines that keep parts off: on a root, behind a bridge, and of functions that are off.
use Rattle.std.proofs.Common.{◌≡◌, ℕ, [], ◌∷◌, refl}
use Rattle.pci_spec.specs.Window.{MemoryWindow}
use Rattle.pci_spec.specs.System.{System}
use Rattle.pci_spec.proofs.Examples.Samples.{slot, device, write}
use Rattle.judge_spec.specs.Told.{Command, Always, Held}
use Rattle.judge_spec.proofs.Examples.ToldClaims.{told_io, told_memory, told_ranges}
use Rattle.settle_spec.specs.Lists.{Request}
use Rattle.settle_spec.specs.Items.{window_within, holds_within}
use Rattle.settle_spec.specs.Writes.{Settled, NoRoom, NotKept}
use Rattle.settle_spec.specs.Stands.{stands_within, range_stands_within}
use Rattle.settle_spec.specs.Reach.{reach_within}
use Rattle.settle_spec.specs.Growth.{there_beside, there_within}
use Rattle.settle_spec.specs.Keeping.Places.{placing_within}
use Rattle.settle_spec.specs.Keeping.Registers.{is_live_within}
use Rattle.settle_spec.specs.Growing.{settle_growing}
use Rattle.settle_spec.proofs.Examples.Settlings.{all_roots, lists, plain, over}
use Rattle.settle_spec.proofs.Examples.Growth.{roomy}
use Rattle.settle_spec.proofs.Examples.ToldPlaces.{as_told, one_megabyte}

-- a device of 1 MB that runs on the root, and one that is plugged in
abbrev pub two_on_root : System
two_on_root = plain (slot 0 2 0) 2 0xe0000000 0xfff00000 ∷ plain (slot 0 3 0) 0 0 0xfff00000 ∷ []

-- the ports of a channel in compatibility mode are in a list
abbrev pub with_channel_ports : Request
with_channel_ports = record roomy { lists = record lists { io = all_roots 0x1f0 0x1ff ∷ all_roots 0x1000 0xffff ∷ []; memory = all_roots 0xe0000000 0xe0ffffff ∷ [] } }

-- a BAR at these ports, and a controller that is off
abbrev pub at_channel : ℕ → System
at_channel command = plain (slot 0 2 0) command 0x1f1 0xfffffff9 ∷ device (slot 0 5 0) 0 [] [] ∷ []

-- two controllers
abbrev pub two_channels : ℕ → System
two_channels command = device (slot 0 4 0) command [] [] ∷ device (slot 0 5 0) 1 [] [] ∷ []

-- somebody on the root keeps a device off,
somebody_is_on_the_root : settle_growing (as_told (told_ranges (told_memory (slot 0 0x1f 1) 0xe0000000 0xe0000fff Held ∷ [])) roomy) two_on_root
    ≡ Settled (write (slot 0 2 0) 0x4 2 0x0 ∷ write (slot 0 2 0) 0x10 4 0xe0100000 ∷ write (slot 0 3 0) 0x10 4 0xe0200000 ∷ write (slot 0 2 0) 0x4 2 0x2 ∷ write (slot 0 3 0) 0x4 2 0x2 ∷ [])
unfolding stands_within range_stands_within window_within holds_within reach_within there_beside there_within placing_within is_live_within
somebody_is_on_the_root = refl

-- but not of its own slot: there nothing else is placed,
room_of_its_own : settle_growing (as_told (told_ranges (told_memory (slot 0 2 0) 0xe0000000 0xe01fffff Held ∷ [])) roomy) two_on_root
    ≡ Settled (write (slot 0 3 0) 0x10 4 0xe0200000 ∷ write (slot 0 3 0) 0x4 2 0x2 ∷ [])
unfolding stands_within range_stands_within window_within holds_within reach_within there_beside there_within placing_within is_live_within
room_of_its_own = refl

-- and a told range of its own slot does
range_of_its_own : settle_growing (as_told (told_ranges (told_memory (slot 0 2 0) 0xe0000000 0xe0000fff Always ∷ [])) roomy) (plain (slot 0 2 0) 2 0xe0000000 0xfff00000 ∷ [])
    ≡ Settled (write (slot 0 2 0) 0x4 2 0x0 ∷ write (slot 0 2 0) 0x10 4 0xe0100000 ∷ write (slot 0 2 0) 0x4 2 0x2 ∷ [])
unfolding stands_within range_stands_within window_within holds_within reach_within there_beside there_within placing_within is_live_within
range_of_its_own = refl

-- a new window isn't placed over somebody behind it
somebody_is_behind : settle_growing (as_told (told_ranges (told_memory (slot 1 0x1f 0) 0xe0000000 0xe0000fff Held ∷ [])) roomy) (over 0 0xfff0 ∷ plain (slot 1 0 0) 0 0 0xfff00000 ∷ [])
    ≡ Settled (write (slot 0 1 0) 0x20 4 0xe010e010 ∷ write (slot 1 0 0) 0x10 4 0xe0100000 ∷ write (slot 0 1 0) 0x4 2 0x2 ∷ write (slot 1 0 0) 0x4 2 0x2 ∷ [])
unfolding stands_within range_stands_within window_within holds_within reach_within there_beside there_within placing_within is_live_within
somebody_is_behind = refl

-- a window doesn't grow over somebody beside it: it moves, as nothing told is in it
somebody_is_beside : settle_growing (as_told (told_ranges (told_memory (slot 0 0x1f 0) 0xe0180000 0xe0180fff Held ∷ [])) roomy) (over 2 0xe000e000 ∷ plain (slot 1 0 0) 2 0xe0000000 0xffffc000 ∷ plain (slot 1 1 0) 0 0 0xfff00000 ∷ [])
    ≡ Settled (write (slot 1 0 0) 0x4 2 0x0 ∷ write (slot 0 1 0) 0x20 4 0xfff0 ∷ write (slot 0 1 0) 0x20 4 0xe030e020 ∷ write (slot 1 0 0) 0x10 4 0xe0300000 ∷ write (slot 1 1 0) 0x10 4 0xe0200000 ∷ write (slot 1 0 0) 0x4 2 0x2 ∷ write (slot 1 1 0) 0x4 2 0x2 ∷ [])
unfolding stands_within range_stands_within window_within holds_within reach_within there_beside there_within placing_within is_live_within
somebody_is_beside = refl

-- room that is told of at the bridge's own slot is its own: it grows over that
reserved_room_of_the_bridge : settle_growing (as_told (told_ranges (told_memory (slot 0 1 0) 0xe0180000 0xe0180fff Held ∷ [])) roomy) (over 2 0xe000e000 ∷ plain (slot 1 0 0) 2 0xe0000000 0xffffc000 ∷ plain (slot 1 1 0) 0 0 0xfff00000 ∷ [])
    ≡ Settled (write (slot 0 1 0) 0x20 4 0xe010e000 ∷ write (slot 1 1 0) 0x10 4 0xe0100000 ∷ write (slot 1 1 0) 0x4 2 0x2 ∷ [])
unfolding stands_within range_stands_within window_within holds_within reach_within there_beside there_within placing_within is_live_within
reserved_room_of_the_bridge = refl

-- what is on isn't moved for a range that is off,
channel_is_off : settle_growing (as_told (told_ranges (told_io (slot 0 5 0) 0x1f0 0x1f7 Command ∷ [])) with_channel_ports) (at_channel 1)
    ≡ Settled []
unfolding stands_within range_stands_within window_within holds_within reach_within there_beside there_within placing_within is_live_within
channel_is_off = refl

-- and what is off is
both_are_off : settle_growing (as_told (told_ranges (told_io (slot 0 5 0) 0x1f0 0x1f7 Command ∷ [])) with_channel_ports) (at_channel 0)
    ≡ Settled (write (slot 0 2 0) 0x10 4 0x1f9 ∷ write (slot 0 2 0) 0x4 2 0x1 ∷ [])
unfolding stands_within range_stands_within window_within holds_within reach_within there_beside there_within placing_within is_live_within
both_are_off = refl

-- of two told ranges at one place the earlier line is first,
two_at_one_place : settle_growing (as_told (told_ranges (told_io (slot 0 4 0) 0x1f0 0x1f7 Command ∷ told_io (slot 0 5 0) 0x1f0 0x1f7 Command ∷ [])) roomy) (two_channels 1)
    ≡ NotKept (slot 0 5 0) 257
unfolding stands_within range_stands_within window_within holds_within reach_within there_beside there_within placing_within is_live_within
two_at_one_place = refl

-- but one that is on before one that is off,
one_of_them_is_off : settle_growing (as_told (told_ranges (told_io (slot 0 4 0) 0x1f0 0x1f7 Command ∷ told_io (slot 0 5 0) 0x1f0 0x1f7 Command ∷ [])) roomy) (two_channels 0)
    ≡ Settled []
unfolding stands_within range_stands_within window_within holds_within reach_within there_beside there_within placing_within is_live_within
one_of_them_is_off = refl

-- which settling can't switch on then
would_be_on : settle_growing (as_told (told_ranges (told_io (slot 0 4 0) 0x1f0 0x1f7 Command ∷ told_io (slot 0 5 0) 0x1f0 0x1f7 Command ∷ [])) roomy) (device (slot 0 4 0) 0 ((0x20, 1) ∷ []) ((0x20, 0xfffffff1) ∷ []) ∷ device (slot 0 5 0) 1 [] [] ∷ [])
    ≡ NotKept (slot 0 4 0) 256
unfolding stands_within range_stands_within window_within holds_within reach_within there_beside there_within placing_within is_live_within
would_be_on = refl

-- where all is held nothing stands, and has a place
all_is_held : settle_growing (as_told (told_ranges (told_memory (slot 0 0x1f 0) 0x0 0xffffffffffffffff Held ∷ [])) roomy) (plain (slot 0 2 0) 2 0xe0000000 0xfff00000 ∷ [])
    ≡ NoRoom MemoryWindow (slot 0 2 0) 0x10 0x100000 0x100000
unfolding stands_within range_stands_within window_within holds_within reach_within there_beside there_within placing_within is_live_within
all_is_held = refl

-- a told range on a root need not be in a list
outside_of_the_lists : settle_growing (as_told (told_ranges (told_io (slot 0 0x1f 0) 0x10000 0x1ffff Always ∷ [])) roomy) (device (slot 0 0x1f 0) 0 [] [] ∷ [])
    ≡ Settled []
unfolding stands_within range_stands_within window_within holds_within reach_within there_beside there_within placing_within is_live_within
outside_of_the_lists = refl

-- a window may be over a `held` line of its bridge's slot,
held_in_its_own_window : settle_growing (as_told (told_ranges (told_memory (slot 0 1 0) 0xe0080000 0xe0080fff Held ∷ [])) roomy) one_megabyte
    ≡ Settled []
unfolding stands_within range_stands_within window_within holds_within reach_within there_beside there_within placing_within is_live_within
held_in_its_own_window = refl

-- and moves from over a told range of it,
always_in_its_own_window : settle_growing (as_told (told_ranges (told_memory (slot 0 1 0) 0xe0080000 0xe0080fff Always ∷ [])) roomy) one_megabyte
    ≡ Settled (write (slot 1 0 0) 0x4 2 0x0 ∷ write (slot 0 1 0) 0x20 4 0xfff0 ∷ write (slot 0 1 0) 0x20 4 0xe010e010 ∷ write (slot 1 0 0) 0x10 4 0xe0100000 ∷ write (slot 1 0 0) 0x4 2 0x2 ∷ [])
unfolding stands_within range_stands_within window_within holds_within reach_within there_beside there_within placing_within is_live_within
always_in_its_own_window = refl

-- unless another told range is in it
two_told_in_one_window : settle_growing (as_told (told_ranges (told_memory (slot 0 1 0) 0xe0080000 0xe0080fff Always ∷ told_memory (slot 1 0 0) 0xe0004000 0xe000bfff Always ∷ [])) roomy) one_megabyte
    ≡ NotKept (slot 1 0 0) 257
unfolding stands_within range_stands_within window_within holds_within reach_within there_beside there_within placing_within is_live_within
two_told_in_one_window = refl
