-- Whose each address is.
use Rattle.std.specs.Prelude.{◌≡◌, ℕ, ◌<◌, ◌≤◌, ◌⊎◌, List, Some}
use Rattle.std.specs.Ordering.{nat_cmp}
use Rattle.std.specs.Map.{lookup}
use Rattle.std.specs.BTreeMap.{is_at}
use Rattle.pci_base.specs.declared.range.Range.{Range}
use Rattle.pci_faults.specs.declared.owners.Owned.{Owned}
use Rattle.pci_faults.specs.declared.owners.Found.{Found}

-- ranges with an owner each, by their last addresses
abbrev pub OwnedRanges : Type 0
OwnedRanges = List (ℕ × Owned)

-- the range stands there under its last address
abbrev pub StandsAt : OwnedRanges → ℕ → Owned → Type 0
StandsAt ranges last r = lookup (is_at (nat_cmp last)) ranges ≡ Some r

-- the address has this owner
pub record Owns (ranges : OwnedRanges) (a owner : ℕ) : Type 0 where
  pub last : ℕ
  pub r : Owned
  pub stands : StandsAt ranges last r
  pub from : r.first ≤ a
  pub to : a ≤ last
  pub is : r.owner ≡ owner

-- no range is empty, and no two have an address in common
pub record OwnedRangesAreApart (ranges : OwnedRanges) : Type 0 where
  pub each : (last : ℕ) (r : Owned) → StandsAt ranges last r → r.first ≤ last
  pub apart : (last other : ℕ) (r q : Owned) → StandsAt ranges last r → StandsAt ranges other q
      → last < other → last < q.first

-- the first address from one on that has an owner, and the addresses up to the last have the same
pub record IsFirstOwned (ranges : OwnedRanges) (from : ℕ) (f : Found) : Type 0 where
  pub from_on : from ≤ f.address
  pub some : f.address ≤ f.last
  pub owned : (a : ℕ) → f.address ≤ a → a ≤ f.last → Owns ranges a f.owner
  pub least : (a owner : ℕ) → from ≤ a → a < f.address → Owns ranges a owner → ⊥

abbrev pub OwnedRangeHas : Range → ℕ → Type 0
OwnedRangeHas r a = (r.first ≤ a) × (a ≤ r.last)

-- the addresses of a range that had no owner have this one now, and the others theirs
pub record IsRangeAdded (before after : OwnedRanges) (range : Range) (owner : ℕ) : Type 0 where
  pub kept : (a i : ℕ) → Owns before a i → Owns after a i
  pub only : (a i : ℕ) → Owns after a i
      → Owns before a i ⊎ (OwnedRangeHas range a × (i ≡ owner) × ((j : ℕ) → Owns before a j → ⊥))
  pub each : (a : ℕ) → OwnedRangeHas range a → (i : ℕ) × Owns after a i
