-- Room behind slots beside what is told: what is written, and which spares are denied.
use Rattle.std.proofs.Common.{◌≡◌, ℕ, List, [], ◌∷◌, map, refl}
use Rattle.pci_spec.specs.Slot.{Slot}
use Rattle.pci_spec.specs.System.{System, register_of}
use Rattle.pci_spec.proofs.Examples.Samples.{slot, write}
use Rattle.judge_spec.specs.Told.{Always, Held}
use Rattle.judge_spec.specs.ToldClaims.{Told}
use Rattle.judge_spec.proofs.Examples.ToldClaims.{told_memory, told_ranges}
use Rattle.settle_spec.specs.Lists.{Request}
use Rattle.settle_spec.specs.Spares.{doubled_in}
use Rattle.settle_spec.specs.Items.{window_within, holds_within}
use Rattle.settle_spec.specs.Writes.{Settled, Settling}
use Rattle.settle_spec.specs.Stands.{stands_within, range_stands_within}
use Rattle.settle_spec.specs.Reach.{reach_within}
use Rattle.settle_spec.specs.Growth.{there_beside, there_within}
use Rattle.settle_spec.specs.Keeping.Places.{placing_within}
use Rattle.settle_spec.specs.Keeping.Registers.{is_live_within}
use Rattle.settle_spec.specs.Wishes.{ending_within, spared_within}
use Rattle.settle_spec.specs.Sparing.{settle_sparing, denied}
use Rattle.settle_spec.proofs.Examples.Settlings.{over}
use Rattle.settle_spec.proofs.Examples.Spares.{wanting, first_port}
use Rattle.settle_spec.proofs.Examples.ToldPlaces.{as_told, one_megabyte}

-- what is written, and the slots and registers that are denied
abbrev pub answer : Told → Request → System → Settling × List (Slot × ℕ)
answer told q s = (settle_sparing (as_told told q) s, map (λ r. (r.function.slot, register_of r.function r.part)) (denied (as_told told q) s))

abbrev pub of_one_megabyte : Request
of_one_megabyte = wanting 0 0x100000 0 first_port

-- a window ends later for a spare beside virtual functions,
beside_virtual_functions : answer (told_ranges (told_memory (slot 1 0 0) 0xe0004000 0xe000bfff Always ∷ [])) of_one_megabyte one_megabyte
    ≡ (Settled (write (slot 0 1 0) 0x20 4 0xe010e000 ∷ []), [])
unfolding stands_within range_stands_within window_within holds_within reach_within there_beside there_within placing_within is_live_within ending_within spared_within doubled_in
beside_virtual_functions = refl

-- but not over somebody on the bus above
somebody_is_above : answer (told_ranges (told_memory (slot 0 0x1f 0) 0xe0100000 0xe0100fff Held ∷ told_memory (slot 1 0 0) 0xe0004000 0xe00fffff Always ∷ [])) of_one_megabyte one_megabyte
    ≡ (Settled [], (slot 0 1 0, 0x20) ∷ [])
unfolding stands_within range_stands_within window_within holds_within reach_within there_beside there_within placing_within is_live_within ending_within spared_within doubled_in
somebody_is_above = refl

-- a window is opened for one, off what somebody on its root holds, and off what is told of behind it
opened_beside_somebody : answer (told_ranges (told_memory (slot 0 0x1f 0) 0xe0000000 0xe0000fff Held ∷ told_memory (slot 1 0x1f 0) 0xe0100000 0xe0100fff Held ∷ [])) of_one_megabyte (over 0 0xfff0 ∷ [])
    ≡ (Settled (write (slot 0 1 0) 0x20 4 0xe020e020 ∷ []), [])
unfolding stands_within range_stands_within window_within holds_within reach_within there_beside there_within placing_within is_live_within ending_within spared_within doubled_in
opened_beside_somebody = refl

-- a spare is behind what lines hold in the window
behind_what_is_told : answer (told_ranges (told_memory (slot 1 0x1f 0) 0xe0100000 0xe0100fff Held ∷ [])) of_one_megabyte one_megabyte
    ≡ (Settled (write (slot 0 1 0) 0x20 4 0xe020e000 ∷ []), [])
unfolding stands_within range_stands_within window_within holds_within reach_within there_beside there_within placing_within is_live_within ending_within spared_within doubled_in
behind_what_is_told = refl
