-- What the host sends to the root buses of a domain, as `/proc/ioports` or `/proc/iomem` lists it.
use Rattle.std.specs.Prelude.{◌≡◌, ◌⊎◌, ℕ, ◌≤◌, ◌==◌, nat_le, Bool, true, false, ◌&&◌, if◌then◌else◌, List, [], ◌∷◌, ◌++◌, Option, None, Some}
use Rattle.std.specs.List.{Contains, list_any, slice_split}
use Rattle.judge_spec.specs.Given.{sends}
use Rattle.pci_base.specs.declared.range.RootRange.{RootRange}
use Rattle.pciplan_lists.specs.HostLists.{host_range_of, IsGoodHostList}
use Rattle.std.specs.Global.{Vec}
use Rattle.pci_here.specs.declared.bus_line.BusRange.{BusRange}
use Rattle.pci_here.specs.BusLine.{IsBusLine}

-- whether two ranges are of one bus
abbrev pub same_root : Option ℕ → Option ℕ → Bool
same_root None None = true
same_root (Some bus) (Some other) = bus == other
same_root _ _ = false

-- a range of a root bus of the domain, with addresses that go upward
pub record IsOfHost (domain : ℕ) (roots : List ℕ) (told : BusRange) : Type 0 where
  pub of_domain : told.bus.domain ≡ domain
  pub of_root : Contains roots told.bus.number
  pub forward : told.range.first ≤ told.range.last

-- a line that tells of such a range
pub record IsHostLine (domain : ℕ) (roots line : List ℕ) (r : RootRange) : Type 0 where
  pub told : BusRange
  pub is : IsBusLine line told
  pub host : IsOfHost domain roots told
  pub range : r ≡ record { root = Some told.bus.number; range = told.range }

abbrev pub IsNoHostLine : ℕ → List ℕ → List ℕ → Type 0
IsNoHostLine domain roots line = (r : RootRange) → IsHostLine domain roots line r → ⊥

-- the ranges of some lines, in their order
abbrev pub AreRangesOf : ℕ → List ℕ → List (List ℕ) → List RootRange → Type 0
AreRangesOf domain roots [] ranges = ranges ≡ []
AreRangesOf domain roots (line ∷ lines) ranges =
    ((r : RootRange) × (more : List RootRange) × IsHostLine domain roots line r
    × AreRangesOf domain roots lines more × (ranges ≡ r ∷ more))
    ⊎ (IsNoHostLine domain roots line × AreRangesOf domain roots lines ranges)

-- some ranges were found in lines, and those of the lines that are left make them all
abbrev pub HasFound : ℕ → List ℕ → List (List ℕ) → List (List ℕ) → List RootRange → Type 0
HasFound domain roots lines left found = (more : List RootRange) → AreRangesOf domain roots left more
    → AreRangesOf domain roots lines (found ++ more)

-- the lines of a text
abbrev pub file_lines : List ℕ → List (List ℕ)
file_lines text = slice_split (λ byte. byte == 10) text

-- whether a range lies within another one of the same bus
abbrev pub lies_within_same_bus : RootRange → RootRange → Bool
lies_within_same_bus r q =
    same_root r.root q.root && nat_le q.range.first r.range.first && nat_le r.range.last q.range.last

-- the ranges without those that lie within an earlier one
abbrev pub outer_ranges : List RootRange → List RootRange → List RootRange
outer_ranges earlier [] = earlier
outer_ranges earlier (r ∷ ranges) =
    if list_any (lies_within_same_bus r) earlier then outer_ranges earlier ranges
    else outer_ranges (earlier ++ r ∷ []) ranges

-- whether a list sends an address to a root bus
abbrev pub sends_by : List RootRange → ℕ → ℕ → Bool
sends_by list bus a = list_any (λ r. sends bus a (host_range_of r)) list

-- What is said by some ranges: those that don't lie within an earlier one, where no two of these overlap. They send
-- what all the ranges send.
abbrev pub IsSaidByRanges : List ℕ → List RootRange → Option (Vec RootRange) → Type 0
IsSaidByRanges roots ranges None =
    (outer_ranges [] ranges ≡ []) ⊎ (IsGoodHostList roots (outer_ranges [] ranges) → ⊥)
IsSaidByRanges roots ranges (Some list) =
    (list.items ≡ outer_ranges [] ranges) × IsGoodHostList roots list.items
    × ((bus a : ℕ) → sends_by list.items bus a ≡ sends_by ranges bus a)

-- what a text tells of the root buses of a domain
abbrev pub IsToldBy : ℕ → List ℕ → List ℕ → Option (Vec RootRange) → Type 0
IsToldBy domain roots text list =
    (ranges : List RootRange) × AreRangesOf domain roots (file_lines text) ranges
    × IsSaidByRanges roots ranges list
