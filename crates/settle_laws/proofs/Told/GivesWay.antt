-- Told ranges that are off: of two that share an address, one of an earlier line can come into a window that grows, and one that
-- was on can go off.
use Rattle.std.proofs.Common.{◌≡◌, [], ◌∷◌, refl, true, false}
use Rattle.pci_spec.specs.System.{System}
use Rattle.pci_spec.proofs.Examples.Samples.{slot, device, write}
use Rattle.judge_spec.specs.Told.{Command}
use Rattle.judge_spec.specs.ToldClaims.{Told}
use Rattle.judge_spec.specs.ToldRegion.{ToldRegion}
use Rattle.judge_spec.proofs.Examples.ToldClaims.{told_io, told_memory, told_ranges}
use Rattle.settle_spec.specs.Lists.{Request}
use Rattle.settle_spec.specs.Items.{window_within, holds_within}
use Rattle.settle_spec.specs.Stands.{stands_within, range_stands_within, range_stands}
use Rattle.settle_spec.specs.Reach.{reach_within}
use Rattle.settle_spec.specs.Growth.{there_beside, there_within}
use Rattle.settle_spec.specs.Keeping.Places.{placing_within}
use Rattle.settle_spec.specs.Keeping.Registers.{is_live_within, settled}
use Rattle.settle_spec.specs.Writes.{Settled}
use Rattle.settle_spec.specs.Growing.{settle_growing, finally_kept}
use Rattle.settle_spec.proofs.Examples.Settlings.{plain, over}
use Rattle.settle_spec.proofs.Examples.Growth.{roomy}
use Rattle.settle_spec.proofs.Examples.ToldPlaces.{as_told}

-- two ranges of a function that is off: the first is partly behind the end of its window, and the second within it
abbrev two_told : Told
two_told = told_ranges (told_memory (slot 1 0 0) 0xe00f8000 0xe0107fff Command ∷ told_memory (slot 1 0 0) 0xe00f0000 0xe00fffff Command ∷ [])

abbrev q : Request
q = as_told two_told roomy

abbrev second : ToldRegion
second = record { register = 257; told = told_memory (slot 1 0 0) 0xe00f0000 0xe00fffff Command }

-- and a device that makes the window grow
abbrev board : System
board = over 2 0xe000e000 ∷ device (slot 1 0 0) 0 [] [] ∷ plain (slot 1 1 0) 0 0 0xfff00000 ∷ []

stands_before : range_stands q board second ≡ true
unfolding stands_within range_stands_within window_within holds_within reach_within there_beside there_within placing_within is_live_within
stands_before = refl

window_grows : settle_growing q board
    ≡ Settled (write (slot 0 1 0) 0x20 4 0xe020e000 ∷ write (slot 1 1 0) 0x10 4 0xe0200000 ∷ write (slot 1 1 0) 0x4 2 0x2 ∷ [])
unfolding stands_within range_stands_within window_within holds_within reach_within there_beside there_within placing_within is_live_within
window_grows = refl

gives_way : range_stands q (settled q board (finally_kept q board)) second ≡ false
unfolding stands_within range_stands_within window_within holds_within reach_within there_beside there_within placing_within is_live_within
gives_way = refl

-- ---- one that is switched off

-- two functions that answer the same ports, the first of them off; the second one has an I/O BAR, and there is no range of I/O
abbrev same_ports : Told
same_ports = told_ranges (told_io (slot 0 4 0) 0x1f0 0x1f7 Command ∷ told_io (slot 0 5 0) 0x1f0 0x1f7 Command ∷ [])

abbrev no_io : Request
no_io = let lists = roomy.lists in record roomy { lists = record lists { io = [] } }

abbrev p : Request
p = as_told same_ports no_io

abbrev later : ToldRegion
later = record { register = 257; told = told_io (slot 0 5 0) 0x1f0 0x1f7 Command }

abbrev channels : System
channels = device (slot 0 4 0) 0 [] [] ∷ plain (slot 0 5 0) 1 0x1001 0xfffffff9 ∷ []

is_on : range_stands p channels later ≡ true
unfolding stands_within range_stands_within window_within holds_within reach_within there_beside there_within placing_within is_live_within
is_on = refl

goes_off : settle_growing p channels ≡ Settled (write (slot 0 5 0) 0x4 2 0 ∷ [])
unfolding stands_within range_stands_within window_within holds_within reach_within there_beside there_within placing_within is_live_within
goes_off = refl

gives_way_too : range_stands p (settled p channels (finally_kept p channels)) later ≡ false
unfolding stands_within range_stands_within window_within holds_within reach_within there_beside there_within placing_within is_live_within
gives_way_too = refl
