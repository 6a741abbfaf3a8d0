-- One pass over told ranges, those that are on and then those that are off: what is told of the first of them.
use Rattle.std.specs.Prelude.{◌≡◌, ◌⊎◌, ℕ, ◌+◌, ◌<◌, ◌≤◌, Bool, ◌&&◌, not, IsTrue, IsFalse, List, ◌++◌, length, slice_index_or}
use Rattle.std.specs.List.{Contains, AllPairs, filter, list_all}
use Rattle.pci_spec.specs.Decoded.{Range}
use Rattle.pci_spec.specs.System.{System}
use Rattle.judge_spec.specs.ToldRegion.{ToldRegion, told_regions}
use Rattle.settle_spec.specs.FirstPlace.{ranges_are_apart}
use Rattle.settle_spec.specs.Lists.{Request}
use Rattle.settle_spec.specs.Parts.{FunctionPart, system_parts, addresses}
use Rattle.settle_spec.specs.Lines.{line_bus, line_range, is_held_line, is_line_of}
use Rattle.settle_spec.specs.Stands.{part_space, is_line_on, stands, range_precedes, is_range_in_place, is_range_kept_off, range_stands_if, range_stands}

-- all told ranges, each after those that come before it, with or without `held` lines
pub record AreRangesInOrder (q : Request) (s : System) (xs : List ToldRegion) : Type 0 where
  pub all : (x : ToldRegion) → Contains (told_regions q.told) x → IsFalse (is_held_line x) → Contains xs x
  pub only : (x : ToldRegion) → Contains xs x → Contains (told_regions q.told) x
  pub order : AllPairs (λ x y. IsTrue (range_precedes q s x y)) xs

-- So they are where lines that are on come first, in their order, and then those that are off.
abbrev pub OnThenOffIsInOrder : Type 0
OnThenOffIsInOrder =
    (q : Request) (s : System)
    → AreRangesInOrder q s
    (filter (is_line_on q s) (told_regions q.told) ++ filter (λ x. not (is_line_on q s x)) (told_regions q.told))

-- one of the first ranges
pub record IsRangeAmong (xs : List ToldRegion) (count : ℕ) (x : ToldRegion) : Type 0 where
  pub at : ℕ
  pub first : at < count
  pub within : at < length xs
  pub is : slice_index_or xs at x ≡ x

-- a test tells what has to be told of the first ranges, and of no other one that it stands
pub record AreFirstRangesTold (q : Request) (s : System) (xs : List ToldRegion) (count : ℕ) (test : ToldRegion → Bool) : Type 0 where
  pub each : (k : ℕ) (d : ToldRegion) → k < count → k < length xs → test (slice_index_or xs k d) ≡ range_stands_if q s test (slice_index_or xs k d)
  pub only : (x : ToldRegion) → Contains (told_regions q.told) x → IsTrue (test x) → IsRangeAmong xs count x

-- In the end they are those that stand.
abbrev pub LastRangesAreTold : Type 0
LastRangesAreTold =
    (q : Request) (s : System) (xs : List ToldRegion) (count : ℕ) (test : ToldRegion → Bool)
    → AreRangesInOrder q s xs → length xs ≤ count → AreFirstRangesTold q s xs count test
    → (x : ToldRegion) → Contains (told_regions q.told) x → test x ≡ range_stands q s x

-- a part that stands beside a line has these addresses
pub record IsTakenByPart (q : Request) (s : System) (x : ToldRegion) (t : Range) : Type 0 where
  pub r : FunctionPart
  pub listed : Contains (system_parts q s) r
  pub stands : IsTrue (stands q s r)
  pub beside : IsTrue (is_line_of q (part_space r) r.function.slot.bus x)
  pub is : addresses r ≡ t

-- a told range beside a line has, of which a test says that it stands
pub record IsTakenByRange (q : Request) (test : ToldRegion → Bool) (x : ToldRegion) (t : Range) : Type 0 where
  pub y : ToldRegion
  pub is_told : Contains (told_regions q.told) y
  pub stands : IsTrue (test y)
  pub beside : IsTrue (is_line_of q y.told.space (line_bus y) x)
  pub is : line_range y ≡ t

-- ranges are those of the parts that stand beside a line, and of told ranges there that a test says stand
pub record AreTakenBesideLine (q : Request) (s : System) (test : ToldRegion → Bool) (x : ToldRegion) (taken : List Range) : Type 0 where
  pub each : (t : Range) → Contains taken t → IsTakenByPart q s x t ⊎ IsTakenByRange q test x t
  pub parts : (r : FunctionPart) → Contains (system_parts q s) r → IsTrue (stands q s r)
      → IsTrue (is_line_of q (part_space r) r.function.slot.bus x) → Contains taken (addresses r)
  pub ranges : (y : ToldRegion) → Contains (told_regions q.told) y → IsTrue (test y)
      → IsTrue (is_line_of q y.told.space (line_bus y) x) → Contains taken (line_range y)

-- whether a told range is in its place, off `held` lines, and apart from what is taken
abbrev pub is_free_in_place : Request → System → List Range → ToldRegion → Bool
is_free_in_place q s taken x =
    not (is_held_line x) && is_range_in_place q s (stands q s) x && not (is_range_kept_off q x)
    && list_all (λ t. ranges_are_apart t (line_range x)) taken

-- So the next told range stands: where it is free in its place, beside what stands of parts and of told ranges before it.
abbrev pub NextRangeIsTold : Type 0
NextRangeIsTold =
    (q : Request) (s : System) (xs : List ToldRegion) (count : ℕ) (test next : ToldRegion → Bool)
    (x : ToldRegion) (taken : List Range) → AreRangesInOrder q s xs → AreFirstRangesTold q s xs count test
    → count < length xs → slice_index_or xs count x ≡ x → AreTakenBesideLine q s test x taken
    → next x ≡ is_free_in_place q s taken x
    → ((y : ToldRegion) → Contains (told_regions q.told) y → (y ≡ x) ⊎ (next y ≡ test y))
    → AreFirstRangesTold q s xs (count + 1) next
