-- Laws of new windows where nothing stays: what is behind bridges can be gone over from the highest bus down, and has its
-- places in the windows; and of windows that are as large as all of memory.
use Rattle.std.specs.Prelude.{◌≡◌, ℕ, ◌+◌, ◌-◌, ◌%◌, ◌^◌, ◌<◌, ◌≤◌, nat_lt, IsTrue, List, [], ◌∷◌, map, length, Option}
use Rattle.std.specs.List.{Contains}
use Rattle.pci_spec.specs.Window.{WindowKind}
use Rattle.pci_spec.specs.System.{System, Function, IsSystem, is_bridge}
use Rattle.pci_spec.specs.Bus.{secondary, IsNested}
use Rattle.plan_spec.specs.Place.{range_from}
use Rattle.pci_spec.specs.Decoded.{Range}
use Rattle.settle_spec.specs.FirstPlace.{Extent, is_place}
use Rattle.settle_spec.specs.Lists.{Request}
use Rattle.settle_spec.specs.Spares.{with_spare}
use Rattle.settle_spec.specs.Items.{PlacingItem, place_all, are_placed, has_of, bus_items, nothing, extent_around, window_around, new_window}

-- A new window is that around the items of the bus behind its bridge, whose windows are new ones in turn.
abbrev pub WindowIsAround : Type 0
WindowIsAround =
    (q : Request) (s : System) (c : WindowKind) (b : Function) → IsSystem s → IsNested q.roots s
    → Contains s b → IsTrue (is_bridge b)
    → new_window q s c b
    ≡ window_around q c b (bus_items q s c nothing (new_window q s c) (secondary b))

-- A BAR or ROM of a class is behind a bridge exactly where the bus behind it has an item.
abbrev pub ItemsAreBehind : Type 0
ItemsAreBehind =
    (q : Request) (s : System) (c : WindowKind) (extent : Function → Extent) (b : Function)
    → IsSystem s → IsNested q.roots s → Contains s b → IsTrue (is_bridge b)
    → has_of q s c b ≡ nat_lt 0 (length (bus_items q s c nothing extent (secondary b)))

-- ---- room

-- an item can be placed in a window from a on: a is one of its multiples, and the window ends by its highest address
pub record CanBeIn (a size : ℕ) (i : PlacingItem) : Type 0 where
  pub alignment : 0 < i.extent.alignment
  pub multiple : a % i.extent.alignment ≡ 0
  pub below : a + (size - 1) ≤ i.extent.highest

-- Wherever a new window is placed, all that it was made around has a place in it, with a spare or without.
abbrev pub NewWindowHasRoom : Type 0
NewWindowHasRoom =
    (page highest : ℕ) (spare : Option Extent) (items : List PlacingItem) (a size : ℕ) → 0 < page
    → size ≡ (extent_around page highest (with_spare spare (map (λ (i : PlacingItem). i.extent) items))).size
    → ((i : PlacingItem) → Contains items i → CanBeIn a size i)
    → IsTrue (are_placed (place_all (λ i. range_from a size ∷ []) [] items))

-- ---- all of memory

-- a range has 2^64 addresses, from 0 on, and none of them is taken
pub record IsAllOfMemory (r : Range) (taken : List Range) : Type 0 where
  pub first : r.first ≡ 0
  pub last : r.last + 1 ≡ 2 ^ 64
  pub free : (t : Range) → Contains taken t → t.first < 2 ^ 64 → ⊥

-- What has 2^64 addresses or more has a place only where it has no more than that, in a range of all of them, at 0.
abbrev pub AllNeedsAll : Type 0
AllNeedsAll =
    (r : Range) (taken : List Range) (e : Extent) (a : ℕ) → r.last < 2 ^ 64 → 2 ^ 64 ≤ e.size
    → IsTrue (is_place r taken e a)
    → (e.size ≡ 2 ^ 64) × (a ≡ 0) × IsAllOfMemory r taken
