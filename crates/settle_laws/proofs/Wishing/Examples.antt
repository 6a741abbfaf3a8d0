-- Where all is placed anew and a function is fixed, what is settled can be refused when it is settled again.
use Rattle.std.proofs.Common.{◌≡◌, ℕ, [], ◌∷◌, refl, true}
use Rattle.pci_spec.specs.System.{Function, System}
use Rattle.pci_spec.proofs.Examples.Samples.{slot, device, bridge, write}
use Rattle.settle_spec.specs.Lists.{Request}
use Rattle.settle_spec.specs.Spares.{doubled_in}
use Rattle.settle_spec.specs.Stands.{stands_within}
use Rattle.settle_spec.specs.Items.{window_within, holds_within}
use Rattle.settle_spec.specs.Reach.{reach_within}
use Rattle.settle_spec.specs.Growth.{there_beside, there_within}
use Rattle.settle_spec.specs.Keeping.Places.{placing_within}
use Rattle.settle_spec.specs.Keeping.Registers.{is_live_within}
use Rattle.settle_spec.specs.Writes.{Fixed, Settled}
use Rattle.settle_spec.specs.Wishes.{ending_within, spared_within}
use Rattle.settle_spec.specs.Sparing.{settle_sparing}
use Rattle.settle_spec.specs.SpareLaws.{result_sparing}
use Rattle.settle_spec.proofs.Examples.Growth.{outer}
use Rattle.settle_spec.proofs.Examples.Spares.{wanting, first_port}

-- room for 2 MB behind 00:01.0, and 02:00.0 is fixed
abbrev asked : Request
asked = record (wanting 0 0x200000 0 first_port) { anew = true; fixed = slot 2 0 0 ∷ [] }

-- a bridge with a BAR in the window of the bridge above it
abbrev with_bar : Function
with_bar = bridge (slot 1 0 0) 2 0x20201 ((0x10, 0xe0000000) ∷ (0x20, 0xfff0) ∷ []) ((0x10, 0xfffff000) ∷ [])

-- a function without a BAR behind them
abbrev tree : ℕ → System
tree window = outer window ∷ with_bar ∷ device (slot 2 0 0) 2 [] [] ∷ []

-- the window ends later for the spare,
settled_by_one_write : settle_sparing asked (tree 0xe000e000) ≡ Settled (write (slot 0 1 0) 0x20 4 0xe030e000 ∷ [])
unfolding stands_within window_within holds_within reach_within there_beside there_within placing_within is_live_within ending_within spared_within doubled_in
settled_by_one_write = refl

-- and is larger then than without it, so the BAR counts as moving, and what is fixed would be closed
refused_again : settle_sparing asked (tree 0xe030e000) ≡ Fixed (slot 2 0 0) 4
unfolding stands_within window_within holds_within reach_within there_beside there_within placing_within is_live_within ending_within spared_within doubled_in
refused_again = refl

it_is_the_result : result_sparing asked (tree 0xe000e000) ≡ tree 0xe030e000
unfolding stands_within window_within holds_within reach_within there_beside there_within placing_within is_live_within ending_within spared_within doubled_in
it_is_the_result = refl
