-- What regions claim, and which addresses two of them claim.
use Rattle.std.specs.Prelude.{◌≡◌, ℕ, ◌<◌, ◌≤◌, ◌⊎◌, List, length, slice_index_or, Option, None, Some}
use Rattle.std.specs.List.{AllPairs, Contains, HoldsAt}
use Rattle.std.specs.List.Sorted.{IsNonDecreasingBy}
use Rattle.pci_base.specs.declared.range.Range.{Range}
use Rattle.pci_tree.specs.declared.region.Region.{Region}
use Rattle.pci_tree.specs.Ranges.{Covers}
use Rattle.pci_tree.specs.Regions.{region_number as number_of}

-- the region claims the address
abbrev pub Spans : Region → ℕ → Type 0
Spans r a = (r.first ≤ a) × (a ≤ r.last)

-- no address, or one that isn't below this one
abbrev pub ReachesAddress : Option ℕ → ℕ → Type 0
ReachesAddress None a = ⊥
ReachesAddress (Some last) a = a ≤ last

-- the least address of a list of ranges that a region claims, up to what is reached
pub record IsLeastMet (allowed : List Range) (region : Region) (reached : Option ℕ)
    (a : ℕ) : Type 0 where
  pub claims : Spans region a
  pub met : ReachesAddress reached a
  pub covered : Covers allowed a
  pub least : (b : ℕ) → region.first ≤ b → b < a → Covers allowed b → ⊥

-- two of the first so many regions claim the address
pub record IsTwiceBelow (n : ℕ) (regions : List Region) (a : ℕ) : Type 0 where
  pub i : ℕ
  pub j : ℕ
  pub differ : i < j
  pub below : j < n
  pub first : HoldsAt (λ r. Spans r a) regions i
  pub second : HoldsAt (λ r. Spans r a) regions j

-- two regions claim the address
abbrev pub IsTwice : List Region → ℕ → Type 0
IsTwice regions a = IsTwiceBelow (length regions) regions a

-- the least address of a list of ranges that two regions claim
pub record IsLeastTwice (regions : List Region) (allowed : List Range) (a : ℕ) : Type 0 where
  pub covered : Covers allowed a
  pub twice : IsTwice regions a
  pub least : (b : ℕ) → b < a → Covers allowed b → IsTwice regions b → ⊥

-- the regions stand by first address
abbrev pub StandByFirst : List Region → Type 0
StandByFirst regions = IsNonDecreasingBy (λ r. r.first) regions

-- no two regions have one slot and register
abbrev pub AreDistinct : List Region → Type 0
AreDistinct regions = AllPairs (λ r q. number_of r ≡ number_of q → ⊥) regions

-- the region stands after the one at a place, where one is given
abbrev pub Follows : List Region → Option ℕ → Region → Type 0
Follows regions None r = Unit {0}
Follows regions (Some k) r = HoldsAt (λ x. number_of x < number_of r) regions k

-- of the place of a region, where one is given, and another the one with the lesser region
abbrev pub IsLesser : List Region → Option ℕ → ℕ → ℕ → Type 0
IsLesser regions None i n = n ≡ i
IsLesser regions (Some k) i n =
    ((n ≡ k) ⊎ (n ≡ i))
    × ((d : Region)
    → (number_of (slice_index_or regions n d) ≤ number_of (slice_index_or regions k d))
    × (number_of (slice_index_or regions n d) ≤ number_of (slice_index_or regions i d)))

-- the region at a place claims the address, and stands after the one at another place, where one is given
pub record IsClaimant (regions : List Region) (a : ℕ) (after : Option ℕ) (k : ℕ) : Type 0 where
  pub claims : HoldsAt (λ r. Spans r a) regions k
  pub follows : HoldsAt (Follows regions after) regions k

-- of the first so many regions, the place of the least such
pub record IsLeastClaimant (n : ℕ) (regions : List Region) (a : ℕ) (after : Option ℕ)
    (k : ℕ) : Type 0 where
  pub below : k < n
  pub claimant : IsClaimant regions a after k
  pub least : (i : ℕ) → i < n → IsClaimant regions a after i → (d : Region)
      → number_of (slice_index_or regions k d) ≤ number_of (slice_index_or regions i d)

-- the places of the two least regions that claim the address
pub record AreTwoLeast (regions : List Region) (a i j : ℕ) : Type 0 where
  pub within : (i < length regions) × (j < length regions)
  pub first : HoldsAt (λ r. Spans r a) regions i
  pub second : HoldsAt (λ r. Spans r a) regions j
  pub rise : (d : Region)
      → number_of (slice_index_or regions i d) < number_of (slice_index_or regions j d)
  pub least : (k : ℕ) → k < length regions → HoldsAt (λ r. Spans r a) regions k
      → (d : Region)
      → number_of (slice_index_or regions i d) ≤ number_of (slice_index_or regions k d)
  pub next_least : (k : ℕ) → k < length regions → HoldsAt (λ r. Spans r a) regions k
      → (d : Region)
      → (number_of (slice_index_or regions k d) ≡ number_of (slice_index_or regions i d) → ⊥)
      → number_of (slice_index_or regions j d) ≤ number_of (slice_index_or regions k d)

-- ---- the same of the members of a list, in any order

-- a region of the list claims the address
pub record IsClaimantIn (regions : List Region) (a : ℕ) (r : Region) : Type 0 where
  pub has : Contains regions r
  pub claims : Spans r a

-- no two regions claim the address, where it is of the ranges
abbrev pub IsUnshared : List Region → List Range → ℕ → Type 0
IsUnshared regions allowed a =
    Covers allowed a → (r q : Region) → IsClaimantIn regions a r → IsClaimantIn regions a q
    → number_of r ≡ number_of q

-- the least address of the ranges that two regions claim, and the two least that do
pub record IsFirstOverlap (regions : List Region) (allowed : List Range) (a : ℕ)
    (first second : Region) : Type 0 where
  pub covered : Covers allowed a
  pub claims_first : IsClaimantIn regions a first
  pub claims_second : IsClaimantIn regions a second
  pub rise : number_of first < number_of second
  pub lower_addresses : (b : ℕ) → b < a → IsUnshared regions allowed b
  pub least : (r : Region) → IsClaimantIn regions a r → number_of first ≤ number_of r
  pub next_least : (r : Region) → IsClaimantIn regions a r → (number_of r ≡ number_of first → ⊥)
      → number_of second ≤ number_of r
