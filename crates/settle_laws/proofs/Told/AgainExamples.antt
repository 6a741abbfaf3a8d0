-- Where all is placed anew a window over a told range can grow down: settled again, what was placed before it changes places once.
use Rattle.std.proofs.Common.{◌≡◌, [], ◌∷◌, refl, true}
use Rattle.pci_spec.specs.System.{System}
use Rattle.pci_spec.proofs.Examples.Samples.{slot, device, write}
use Rattle.judge_spec.specs.Told.{Always, Held}
use Rattle.judge_spec.specs.ToldClaims.{Told}
use Rattle.judge_spec.proofs.Examples.ToldClaims.{told_memory, told_ranges}
use Rattle.settle_spec.specs.Lists.{Request}
use Rattle.settle_spec.specs.Items.{window_within, holds_within}
use Rattle.settle_spec.specs.Stands.{stands_within, range_stands_within}
use Rattle.settle_spec.specs.Reach.{reach_within}
use Rattle.settle_spec.specs.Growth.{there_beside, there_within}
use Rattle.settle_spec.specs.Keeping.Places.{placing_within}
use Rattle.settle_spec.specs.Keeping.Registers.{is_live_within, settled}
use Rattle.settle_spec.specs.Writes.{Settled}
use Rattle.settle_spec.specs.Growing.{settle_growing, finally_kept}
use Rattle.settle_spec.proofs.Examples.Settlings.{plain, over}
use Rattle.settle_spec.proofs.Examples.Growth.{roomy}
use Rattle.settle_spec.proofs.Examples.ToldPlaces.{as_told}

-- virtual functions fill a window, and somebody is right behind it
abbrev full : Told
full = told_ranges (told_memory (slot 0 0x1f 0) 0xe0200000 0xe0200fff Held ∷ told_memory (slot 1 0 0) 0xe0100000 0xe01fffff Always ∷ [])

abbrev q : Request
q = as_told full (record roomy { anew = true })

-- two devices have no room in it
abbrev board : System
board = over 2 0xe010e010 ∷ device (slot 1 0 0) 2 [] [] ∷ plain (slot 1 1 0) 0 0 0xfff80000 ∷ plain (slot 1 2 0) 0 0 0xfff80000 ∷ []

-- the window grows down, and each gets the last place before it
grows_down : settle_growing q board
    ≡ Settled (
    write (slot 0 1 0) 0x20 4 0xe010e000 ∷ write (slot 1 1 0) 0x10 4 0xe0080000 ∷ write (slot 1 2 0) 0x10 4 0xe0000000
    ∷ write (slot 1 1 0) 4 2 2 ∷ write (slot 1 2 0) 4 2 2 ∷ [])
unfolding stands_within range_stands_within window_within holds_within reach_within there_beside there_within placing_within is_live_within
grows_down = refl

-- then each gets the first place in it
changes_places : settle_growing q (settled q board (finally_kept q board))
    ≡ Settled (
    write (slot 1 2 0) 4 2 0 ∷ write (slot 1 1 0) 4 2 0 ∷ write (slot 1 1 0) 0x10 4 0xe0000000 ∷ write (slot 1 2 0) 0x10 4 0xe0080000
    ∷ write (slot 1 1 0) 4 2 2 ∷ write (slot 1 2 0) 4 2 2 ∷ [])
unfolding stands_within range_stands_within window_within holds_within reach_within there_beside there_within placing_within is_live_within
changes_places = refl
