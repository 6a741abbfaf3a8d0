-- The room around a window: ranges of its root, and its neighbours among what stands beside it.
use Rattle.std.specs.Prelude.{ℕ, ◌+◌, ◌-◌, ◌<◌, ◌≤◌, max, min, Bool, List, map, Option, None, Some}
use Rattle.std.specs.List.{Contains, filter, find}
use Rattle.pci_spec.specs.Decoded.{Range}
use Rattle.settle_spec.specs.Lists.{is_had_by}
use Rattle.settle_spec.specs.Lists as asked
use Rattle.pci_base.specs.declared.range.RootRange.{RootRange}
use Rattle.pci_first_fit.specs.Lists.{root_range_value}

-- the ranges of a list that a root has
abbrev pub had_ranges : ℕ → List RootRange → List Range
had_ranges bus list =
    map (λ (r : asked.RootRange). r.range) (filter (λ r. is_had_by r.root bus) (map root_range_value list))

-- the first that passes a test, in one list or else in another
abbrev pub else_range : Option Range → Option Range → Option Range
else_range None other = other
else_range (Some r) other = Some r

abbrev pub find_in_either : (Range → Bool) → List Range → List Range → Option Range
find_in_either test xs ys = else_range (find test xs) (find test ys)

-- ---- the neighbours of a window

-- the one before it is the last of those that aren't above it, if there are any
pub data IsNearestBelow (w : Range) (ts : List Range) : Option Range → Type 0 where
  NoneBelow : ((t : Range) → Contains ts t → w.last < t.first) → IsNearestBelow w ts None
  Below : (b : Range) → Contains ts b → b.first ≤ w.last
      → ((t : Range) → Contains ts t → t.first ≤ w.last → t.last ≤ b.last)
      → IsNearestBelow w ts (Some b)

pub data IsNearestAbove (w : Range) (ts : List Range) : Option Range → Type 0 where
  NoneAbove : ((t : Range) → Contains ts t → t.first ≤ w.last) → IsNearestAbove w ts None
  Above : (h : Range) → Contains ts h → w.last < h.first
      → ((t : Range) → Contains ts t → w.last < t.first → h.first ≤ t.first)
      → IsNearestAbove w ts (Some h)

-- what is free of a room behind the one before, and before the one behind
abbrev pub first_behind : ℕ → Option Range → ℕ
first_behind n None = n
first_behind n (Some b) = max n (b.last + 1)

abbrev pub last_before : ℕ → Option Range → ℕ
last_before n None = n
last_before n (Some h) = min n (h.first - 1)
