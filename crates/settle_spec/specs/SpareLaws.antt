-- Laws of room behind slots: it refuses nothing, no part goes for it, and what isn't denied is there.
use Rattle.std.specs.Prelude.{◌≡◌, ◌^◌, ◌<◌, Bool, ◌&&◌, IsTrue, IsFalse, [], Some}
use Rattle.std.specs.List.{Contains}
use Rattle.std.specs.Option.{is_some}
use Rattle.pci_spec.specs.Window.{WindowKind, has_window}
use Rattle.pci_spec.specs.System.{System, Function, IsSystem, window_space}
use Rattle.pci_spec.specs.Bus.{secondary, IsNested}
use Rattle.pci_spec.specs.Sound.{IsInProfile, HasChains}
use Rattle.plan_spec.specs.Plan.{is_open}
use Rattle.settle_spec.specs.FirstPlace.{Extent, first_place_in}
use Rattle.settle_spec.specs.Lists.{RootRange, Request}
use Rattle.settle_spec.specs.Parts.{FunctionPart, system_parts, addresses, are_same_space}
use Rattle.settle_spec.specs.Stands.{part_space, window_part}
use Rattle.settle_spec.specs.Items.{spare_of}
use Rattle.settle_spec.specs.Growth.{there_on}
use Rattle.settle_spec.specs.Kept.{Kept}
use Rattle.settle_spec.specs.Keeping.Registers.{settled_function, settled_command, settled}
use Rattle.settle_spec.specs.Growing.{settle_growing, finally_kept}
use Rattle.settle_spec.specs.Sparing.{without_slots, is_settled, placing_request, grants, denied, settle_sparing}

-- Nothing is told beside BARs and ROMs, a system is admitted, and lists of prefetchable memory end below 2^64.
pub record CanAsk (q : Request) (s : System) : Type 0 where
  pub untold : q.told.ranges ≡ []
  pub high : (r : RootRange) → Contains q.lists.prefetch r → r.range.last < 2 ^ 64
  pub system : IsSystem s
  pub nested : IsNested q.roots s
  pub profile : IsInProfile q.roots s
  pub chains : HasChains s

-- what is kept in the end
abbrev pub kept_sparing : Request → System → Kept
kept_sparing q s = (grants q s).kept

-- What is refused with slots is refused without them, and for the same reason.
abbrev pub SparesRefuseNothing : Type 0
SparesRefuseNothing =
    (q : Request) (s : System) → CanAsk q s
    → IsFalse (is_settled (settle_sparing q s))
    → settle_sparing q s ≡ settle_growing (without_slots q) s

-- Without slots all is settled as it is where no room is wanted.
abbrev pub NoSlotsNoSpares : Type 0
NoSlotsNoSpares =
    (q : Request) (s : System)
    → settle_sparing (without_slots q) s ≡ settle_growing (without_slots q) s

-- ---- nothing goes

-- What stays without slots stays with them.
abbrev pub NothingGoesForSpares : Type 0
NothingGoesForSpares =
    (q : Request) (s : System) (r : FunctionPart) → Contains (system_parts q s) r
    → IsTrue ((finally_kept (without_slots q) s).stays r) → IsTrue ((kept_sparing q s).stays r)

-- Command is that without slots.
abbrev pub SparesSetNoCommand : Type 0
SparesSetNoCommand =
    (q : Request) (s : System) (f : Function) → CanAsk q s → Contains s f
    → IsTrue (is_settled (settle_growing (without_slots q) s))
    → settled_command (placing_request q s) s (kept_sparing q s) f
    ≡ settled_command (without_slots q) s (finally_kept (without_slots q) s) f

-- ---- what isn't denied is there

-- the result
abbrev pub result_sparing : Request → System → System
result_sparing q s = settled (placing_request q s) s (kept_sparing q s)

abbrev pub result_of : Request → System → Function → Function
result_of q s b = settled_function (placing_request q s) s (kept_sparing q s) b

-- a window has a first place for an extent, off all of its space that is there on the bus behind
abbrev pub has_room_for : Request → System → WindowKind → Function → Extent → Bool
has_room_for q t c b e =
    is_open b c
    && is_some (first_place_in (addresses (window_part c b))
    (there_on q t (λ r. Some (addresses r)) (λ r. are_same_space (window_space c) (part_space r)) (secondary b)) e)

-- The spare behind a slot is denied, or else its window has room for it in the result.
abbrev pub SparesHaveRoom : Type 0
SparesHaveRoom =
    (q : Request) (s : System) (c : WindowKind) (b : Function) (e : Extent) → CanAsk q s
    → Contains s b → spare_of q c b ≡ Some e → IsTrue (has_window c b.probe)
    → (Contains (denied q s) (window_part c b) → ⊥) → IsTrue (is_settled (settle_sparing q s))
    → IsTrue (has_room_for q (result_sparing q s) c (result_of q s b) e)
