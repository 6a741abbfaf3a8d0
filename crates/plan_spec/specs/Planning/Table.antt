-- The places of one class, before registers show them.
use Rattle.std.specs.Prelude.{◌≡◌, ℕ, ◌+◌, ◌-◌, ◌%◌, ◌^◌, ◌<◌, ◌≤◌, nat_lt, Bool, ◌&&◌, IsTrue, List, length, map, slice_index, slice_index_or}
use Rattle.std.specs.List.{Contains, sum}
use Rattle.pci_spec.specs.Window.{WindowKind}
use Rattle.pci_spec.specs.System.{System, Function, Part, Bar, Rom, Window, is_bridge}
use Rattle.pci_spec.specs.Bus.{secondary}
use Rattle.plan_spec.specs.Plan.{Pools, pool_of, same_class, window_size, size_of, items_on, raised_to, greatest, IsMoved, class_of}
use Rattle.plan_spec.specs.Planning.Layout.{range_of, is_item}
use Rattle.plan_spec.specs.Planning.Placing.{IsFalling, starts}
use Rattle.plan_spec.specs.Planning.Room.{root_items}

-- a part of a function
pub record Item : Type 0 where
  pub function : Function
  pub part : Part

-- what a bridge has behind it of a class
abbrev pub need_behind : System → Pools → WindowKind → Function → ℕ
need_behind s pools c b = sum (items_on s pools c (secondary b))

-- whether a part is to be placed in a class: a BAR or ROM of it, or the window of a bridge with something of it behind
abbrev pub is_placed : System → Pools → WindowKind → Function → Part → Bool
is_placed s pools c f (Bar n) = is_item f (Bar n) && same_class c (class_of s pools f (Bar n))
is_placed s pools c f Rom = is_item f Rom && same_class c (class_of s pools f Rom)
is_placed s pools c f (Window kind) =
    is_bridge f && same_class c kind && nat_lt 0 (need_behind s pools c f)

abbrev pub size_in : System → Pools → WindowKind → Function → Part → ℕ
size_in s pools c f (Bar n) = size_of f (Bar n)
size_in s pools c f Rom = size_of f Rom
size_in s pools c f (Window kind) = window_size c (need_behind s pools c f)

abbrev pub size_at : System → Pools → WindowKind → Item → ℕ
size_at s pools c i = size_in s pools c i.function i.part

-- the part is placed, and its function is on those buses
abbrev pub IsOnSide : System → Pools → WindowKind → (Function → Type 0) → Function → Part → Type 0
IsOnSide s pools c Side f p = Contains s f × Side f × IsTrue (is_placed s pools c f p)

-- What stands on some buses is placed from a start on, largest first.
pub record IsPlacedOn (IsOn : Function → Part → Type 0) (size : Item → ℕ)
    (first : Function → Part → ℕ) (total start : ℕ) (items : List Item) : Type 0 where
  pub all : (f : Function) (p : Part) → IsOn f p
      → (k : ℕ) × (k < length items)
      × ((d : Item) → slice_index_or items k d ≡ record { function = f; part = p })
  pub falling : IsFalling (map size items)
  pub aligned : 0 < length items → start % slice_index (map size items) 0 ≡ 0
  pub at : (k : ℕ) (d : Item) → k < length items
      → first (slice_index_or items k d).function (slice_index_or items k d).part
      ≡ slice_index (starts start (map size items)) k
  pub sums : sum (map size items) ≡ total

-- what is on the roots is placed in the pool, and what is behind a bridge from the first address of its window on
pub record IsTable (roots : List ℕ) (s : System) (pools : Pools) (c : WindowKind)
    (first : Function → Part → ℕ) : Type 0 where
  pub start : ℕ
  pub placed_roots : List Item
  pub on_roots : IsPlacedOn (IsOnSide s pools c (λ f. Contains roots f.slot.bus))
      (size_at s pools c) first (sum (root_items roots s pools c)) start placed_roots
  pub low : 0 < length placed_roots → (pool_of pools c).first ≤ start
  pub high : 0 < length placed_roots
      → start + sum (root_items roots s pools c) ≤ (pool_of pools c).last + 1
  pub behind_items : Function → List Item
  pub behind : (b : Function) → Contains s b → IsTrue (is_bridge b) → 0 < need_behind s pools c b
      → IsPlacedOn (IsOnSide s pools c (λ f. f.slot.bus ≡ secondary b)) (size_at s pools c) first
      (need_behind s pools c b) (first b (Window c)) (behind_items b)
  pub small : (b : Function) → Contains s b → IsTrue (is_bridge b)
      → need_behind s pools c b ≤ 2 ^ 65

-- what placing largest first shows, from the pool's first address raised to a multiple of the greatest item on
pub record IsPlacing (roots : List ℕ) (s : System) (pools : Pools) (c : WindowKind)
    (first : Function → Part → ℕ) : Type 0 where
  pub placed_roots : List Item
  pub on_roots : IsPlacedOn (IsOnSide s pools c (λ f. Contains roots f.slot.bus))
      (size_at s pools c) first (sum (root_items roots s pools c))
      (raised_to (greatest (root_items roots s pools c)) (pool_of pools c).first) placed_roots
  pub behind_items : Function → List Item
  pub behind : (b : Function) → Contains s b → IsTrue (is_bridge b) → 0 < need_behind s pools c b
      → IsPlacedOn (IsOnSide s pools c (λ f. f.slot.bus ≡ secondary b)) (size_at s pools c) first
      (need_behind s pools c b) (first b (Window c)) (behind_items b)

-- the registers show the places of a table for each class, and no window but these is open
pub record IsShown (s t : System) (pools : Pools) (first : Function → Part → ℕ)
    (f g : Function) : Type 0 where
  pub moved : IsMoved f g
  pub shows : (c : WindowKind) (p : Part) → IsTrue (is_placed s pools c f p)
      → range_of g p ≡ record { first = first f p; last = first f p + (size_in s pools c f p - 1) }
  pub opens : (c : WindowKind) → IsTrue (is_placed s pools c f (Window c))
      → IsTrue (is_item g (Window c))
  pub only : (p : Part) → IsTrue (is_item g p)
      → IsTrue (is_placed s pools (class_of t pools g p) f p)
