-- Laws of what is kept as a system is settled: a window that stays has a place for each item of its class behind it.
use Rattle.std.specs.Prelude.{◌≡◌, ◌≢◌, ◌+◌, ◌%◌, ◌<◌, ◌≤◌, ◌⊎◌, ℕ, IsTrue, IsFalse, Option, None, Some, List, [], ◌∷◌}
use Rattle.std.specs.List.{Contains}
use Rattle.pci_spec.specs.Window.{WindowKind, bounds_for, has_window, page_size}
use Rattle.pci_spec.specs.Decoded.{Range}
use Rattle.pci_spec.specs.System.{System, Function, IsSystem, has_part, is_bridge, is_window, window_space}
use Rattle.pci_spec.specs.Bus.{is_root, secondary, IsNested, LeadsTo}
use Rattle.pci_spec.specs.Sound.{IsInProfile}
use Rattle.plan_spec.specs.Planning.Layout.{IsInside, LieApart}
use Rattle.judge_spec.specs.ToldRegion.{ToldRegion, told_regions}
use Rattle.settle_spec.specs.Lists.{Request}
use Rattle.settle_spec.specs.Parts.{FunctionPart, system_parts, addresses, lies_within}
use Rattle.settle_spec.specs.Stands.{is_fixed_part, rank, part_space, are_beside, is_in_lists, window_part}
use Rattle.settle_spec.specs.Items.{PlacingItem, Placed, AllPlaced, taken_by, bus_items, highest_in, new_window, place_each}
use Rattle.settle_spec.specs.Lines.{line_range, can_keep_off, lines_behind, taken_for}
use Rattle.settle_spec.specs.PlacingLaws.{ArePlaced}
use Rattle.settle_spec.specs.GrowthLaws.{MoveOut}
use Rattle.settle_spec.specs.Kept.{Kept, no_wish, as_it_stands, growing}
use Rattle.settle_spec.specs.Keeping.Places.{taken_at}
use Rattle.settle_spec.specs.Wishes.{place_then, range_then}
use Rattle.settle_laws.specs.KeptApart.{IsKeptApart}

-- a range shares no address with another
abbrev pub IsRangeApart : Range → Range → Type 0
IsRangeApart r t = (t.last < r.first) ⊎ (r.last < t.first)

-- what is taken is taken in the other list too, or outside a range
abbrev pub IsAlikeIn : Range → List Range → List Range → Type 0
IsAlikeIn r xs ys = (t : Range) → Contains xs t → Contains ys t ⊎ IsRangeApart r t

-- What is placed is off what lines hold behind it: so it is with each new window.
abbrev pub AreOffBehind : Request → List Placed → Type 0
AreOffBehind q placed =
    (p : Placed) (t : Range) → Contains placed p → Contains (lines_behind q p.item.region) t → LieApart (taken_by p.item p.at) t

-- Items have the places that are found for them, beside what is taken: in a range, off that, off each other, and off what lines
-- hold behind them.
pub record HavePlaces (q : Request) (w : Range) (find : PlacingItem → List Range → Option ℕ) (taken : List Range) (items : List PlacingItem) : Type 0 where
  pub placed : List Placed
  pub found : place_each (λ i xs. find i (taken_for q i.region xs)) taken items ≡ AllPlaced placed
  pub are : ArePlaced (λ i. w ∷ []) taken items placed
  pub off : AreOffBehind q placed

-- Whole pages that a window can hold, no half of whose bounds is further in than that of its own.
pub record IsGrown (c : WindowKind) (b : Function) (r : Range) : Type 0 where
  pub first : r.first % page_size c ≡ 0
  pub last : (r.last + 1) % page_size c ≡ 0
  pub low : r.last ≤ highest_in c b.probe
  pub outward : (n : ℕ) → MoveOut (bounds_for c n (addresses (window_part c b)).first (addresses (window_part c b)).last)
      (bounds_for c n r.first r.last)

-- Nothing is wished: no window has room that is kept free.
abbrev pub WishesNothing : Kept → Type 0
WishesNothing k = k.wished ≡ no_wish

-- A window of a bridge keeps room free up to such addresses. They are whole pages that the window can hold, with all that it
-- has else, and no half of its bounds is further in. They are off all other parts on the bridge's bus, and off each line there
-- that can keep the window off, where all that it has else is. They are in the lists of the root or in the window above, with
-- its room. The bridge isn't fixed.
pub record IsWishedWindow (q : Request) (s : System) (k : Kept) (c : WindowKind) (b : Function) (w : Range) : Type 0 where
  pub there : IsTrue (has_window c b.probe)
  pub unfixed : IsFalse (is_fixed_part q (window_part c b))
  pub forward : w.first ≤ w.last
  pub first : w.first % page_size c ≡ 0
  pub last : (w.last + 1) % page_size c ≡ 0
  pub low : w.last ≤ highest_in c b.probe
  pub holds : (t : Range) → place_then q s k (window_part c b) ≡ Some t → IsInside t w
  pub outward : (t : Range) → place_then q s k (window_part c b) ≡ Some t → (n : ℕ)
      → MoveOut (bounds_for c n t.first t.last) (bounds_for c n w.first w.last)
  pub apart : (r : FunctionPart) (t : Range) → Contains s r.function → IsTrue (has_part r.function r.part)
      → IsTrue (are_beside q (window_part c b) r) → rank r ≢ rank (window_part c b)
      → range_then q s k r ≡ Some t → LieApart w t
  pub off : (x : ToldRegion) → Contains (told_regions q.told) x → IsTrue (can_keep_off q x b.slot (window_space c)) → x.told.first ≤ x.told.last
      → ((t : Range) → place_then q s k (window_part c b) ≡ Some t → LieApart t (line_range x)) → LieApart w (line_range x)
  pub lists : IsTrue (is_root q.roots b.slot.bus) → IsTrue (is_in_lists q b.slot.bus w (window_space c))
  pub over : (d : Function) → LeadsTo s d b.slot.bus
      → (v : Range) × (range_then q s k (window_part c d) ≡ Some v) × IsInside w v

-- So it is with each window that keeps room free. No BAR or ROM does.
pub record IsWished (q : Request) (s : System) (k : Kept) : Type 0 where
  pub windows : (c : WindowKind) (b : Function) (w : Range) → Contains s b → IsTrue (is_bridge b)
      → k.wished (window_part c b) ≡ Some w → IsWishedWindow q s k c b w
  pub plain : (r : FunctionPart) → Contains s r.function → IsTrue (has_part r.function r.part)
      → IsFalse (is_window r.part) → k.wished r ≡ None

-- What stays is apart, in its lists or in the window over it, and has all addresses that it had; a BAR or ROM has the same ones.
-- A window that stays has such pages, and a place for each item of its class behind it, whatever else is taken outside it.
-- What it gains is off lines that can keep it off. Room that is kept free is so, too.
pub record IsSoundKept (q : Request) (s : System) (k : Kept) : Type 0 where
  pub apart : IsKeptApart q s k
  pub holds : (r : FunctionPart) → IsTrue (lies_within (addresses r) (k.range r))
  pub plain : (r : FunctionPart) → IsFalse (is_window r.part) → k.range r ≡ addresses r
  pub grown : (c : WindowKind) (b : Function) → Contains s b → IsTrue (is_bridge b) → IsTrue (k.stays (window_part c b))
      → IsGrown c b (k.range (window_part c b))
  pub places : (c : WindowKind) (b : Function) (taken : List Range) → Contains s b → IsTrue (is_bridge b)
      → IsTrue (k.stays (window_part c b))
      → IsAlikeIn (k.range (window_part c b)) taken (taken_at q s k (window_space c) (secondary b))
      → IsAlikeIn (k.range (window_part c b)) (taken_at q s k (window_space c) (secondary b)) taken
      → HavePlaces q (k.range (window_part c b)) (k.place b) taken
      (bus_items q s c k.stays (new_window q s c) (secondary b))
  pub off : (r : FunctionPart) (x : ToldRegion) → Contains (system_parts q s) r → IsTrue (k.stays r) → Contains (told_regions q.told) x
      → IsTrue (can_keep_off q x r.function.slot (part_space r)) → x.told.first ≤ x.told.last
      → LieApart (addresses r) (line_range x) → LieApart (k.range r) (line_range x)
  pub wished : IsWished q s k

-- So it is with what stays as it stands,
abbrev pub StandingIsSound : Type 0
StandingIsSound =
    (q : Request) (s : System) → IsSystem s → IsNested q.roots s → IsInProfile q.roots s
    → IsSoundKept q s (as_it_stands q s)

-- and where windows grow.
abbrev pub GrowingIsSound : Type 0
GrowingIsSound =
    (q : Request) (s : System) → IsSystem s → IsNested q.roots s → IsInProfile q.roots s
    → IsSoundKept q s (growing q s)
