-- Which address each region of a list shares with one before it.
use Rattle.std.specs.Prelude.{◌≡◌, ℕ, ◌<◌, ◌≤◌, ◌⊎◌, List, length, slice_index_or, map}
use Rattle.std.specs.List.{All, AllPairs, Contains, HoldsAt}
use Rattle.pci_base.specs.declared.range.Range.{Range}
use Rattle.pci_tree.specs.declared.region.Region.{Region}
use Rattle.pci_tree.specs.Ranges.{Covers, IsLeastFrom}
use Rattle.pci_faults.specs.declared.shares.Among.{Among}
use Rattle.pci_faults.specs.declared.shares.Among.TheVariants.{Bus, Roots}
use Rattle.pci_faults.specs.declared.shares.Share.{Share}
use Rattle.pci_faults.specs.Owners.{OwnedRanges, Owns}

-- the region at a place claims the address
abbrev pub SpansAt : List Region → ℕ → ℕ → Type 0
SpansAt regions k a = HoldsAt (λ r. (r.first ≤ a) × (a ≤ r.last)) regions k

-- regions of two groups count: on a bus each is one by itself, over the root buses those of a bus are one
abbrev pub group_at : Among → List Region → ℕ → ℕ
group_at (Bus bus) regions k = k
group_at Roots regions k = slice_index_or (map (λ r. r.slot.bus) regions) k 256

abbrev pub GroupsRise : Among → List Region → Type 0
GroupsRise by regions =
    (j k : ℕ) → j ≤ k → k < length regions → group_at by regions j ≤ group_at by regions k

-- two regions that are apart claim an address of the ranges, at places that rise
pub record IsShared (by : Among) (regions : List Region) (allowed : List Range)
    (a first second : ℕ) : Type 0 where
  pub within : second < length regions
  pub rise : group_at by regions first < group_at by regions second
  pub before : first < second
  pub covered : Covers allowed a
  pub claims_first : SpansAt regions first a
  pub claims_second : SpansAt regions second a

-- the least address that the second shares with one before it, and the least that claims this one
pub record IsLeastShared (by : Among) (regions : List Region) (allowed : List Range)
    (s : Share) : Type 0 where
  pub there : IsShared by regions allowed s.address s.first s.second
  pub least : (a first : ℕ) → IsShared by regions allowed a first s.second
      → (s.address < a) ⊎ ((s.address ≡ a) × (s.first ≤ first))

-- of the regions up to a place those that share an address with one before them, each once
pub record AreSharesBelow (n : ℕ) (by : Among) (regions : List Region) (allowed : List Range)
    (shares : List Share) : Type 0 where
  pub each : (s : Share) → Contains shares s → (s.second < n) × IsLeastShared by regions allowed s
  pub complete : (s : Share) → s.second < n → IsLeastShared by regions allowed s
      → Contains shares s
  pub rising : AllPairs (λ s t. s.second < t.second) shares

abbrev pub AreShares : Among → List Region → List Range → List Share → Type 0
AreShares by regions allowed shares = AreSharesBelow (length regions) by regions allowed shares

-- they are told by places in a list, of which the first is before the second
abbrev pub AreWithin : ℕ → List Share → Type 0
AreWithin n shares = All (λ s. (s.first < s.second) × (s.second < n)) shares

-- ---- the regions whose addresses have owners

-- the region at a place claims the address, from its least address of the ranges on
pub record IsClaimedFrom (regions : List Region) (allowed : List Range) (k a : ℕ) : Type 0 where
  pub first : ℕ
  pub opened : HoldsAt (λ r. IsLeastFrom allowed r.first first) regions k
  pub from : first ≤ a
  pub to : HoldsAt (λ r. a ≤ r.last) regions k

-- each address of the ranges that one of the first so many regions claims has the first of these for its owner
pub record AreOwned (n : ℕ) (regions : List Region) (allowed : List Range)
    (ranges : OwnedRanges) : Type 0 where
  pub sound : (a k : ℕ) → Owns ranges a k
      → (k < n) × IsClaimedFrom regions allowed k a
      × ((j : ℕ) → j < n → Covers allowed a → SpansAt regions j a → k ≤ j)
  pub complete : (a k : ℕ) → k < n → Covers allowed a → SpansAt regions k a
      → (j : ℕ) × Owns ranges a j
  pub once : (a j k : ℕ) → Owns ranges a j → Owns ranges a k → j ≡ k

-- the first so many are of lesser groups than the one at a place, and the others before it are of its own
pub record AreLesser (n i : ℕ) (by : Among) (regions : List Region) : Type 0 where
  pub within : n ≤ i
  pub lesser : (k : ℕ) → k < n → group_at by regions k < group_at by regions i
  pub others : (k : ℕ) → n ≤ k → k < i → group_at by regions i ≤ group_at by regions k

-- the first so many are of lesser groups than each from a place on
abbrev pub AreOfLesserGroups : ℕ → ℕ → Among → List Region → Type 0
AreOfLesserGroups n i by regions =
    (k j : ℕ) → k < n → i ≤ j → j < length regions → group_at by regions k < group_at by regions j
