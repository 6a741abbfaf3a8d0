-- Claims of a list by groups, and whose each address is among the first of them.
use Rattle.std.specs.Prelude.{◌≡◌, ℕ, ◌<◌, ◌≤◌, ◌⊎◌, Bool, true, false, List, Option, None, Some, MatchOption, if◌then◌else◌, nat_lt, nat_eq, ◌&&◌, ◌||◌, length}
use Rattle.pci_base.specs.declared.range.Range.{Range}
use Rattle.pci_spec.specs.Slot.{IsSlot, slot_number}
use Rattle.pci_tree.specs.Ranges.{Covers}
use Rattle.pci_faults.specs.declared.shares.Among.{Among}
use Rattle.pci_faults.specs.declared.shares.Among.TheVariants.{Bus, Roots}
use Rattle.pci_faults.specs.declared.shares.Share.{Share}
use Rattle.pci_faults.specs.declared.owners.Found.{Found}
use Rattle.pci_faults.specs.Owners.{OwnedRanges, Owns}
use Rattle.pci_claims.specs.Claim.{Claimed}
use Rattle.pci_faults.specs.Clashes.{claim_at}

-- ---- groups

-- on a bus the claims of a function are a group, over the root buses those of a bus
abbrev pub claim_group_of : Among → Claimed → ℕ
claim_group_of (Bus bus) c = slot_number c.slot
claim_group_of Roots c = c.slot.bus

abbrev pub claim_group_at : Among → List Claimed → ℕ → ℕ
claim_group_at among claims k = claim_group_of among (claim_at claims k)

-- no claim is of a lesser group than one before it, and each is of a slot
pub record ClaimGroupsRise (among : Among) (claims : List Claimed) : Type 0 where
  pub rise : (j k : ℕ) → j ≤ k → k < length claims
      → claim_group_at among claims j ≤ claim_group_at among claims k
  pub slots : (k : ℕ) → k < length claims → IsSlot (claim_at claims k).slot

-- the first so many are of lesser groups than the one at a place
abbrev pub AreClaimsBefore : ℕ → ℕ → Among → List Claimed → Type 0
AreClaimsBefore n i among claims =
    (k : ℕ) → k < n → claim_group_at among claims k < claim_group_at among claims i

-- and the others before it are of its own
pub record AreLesserClaims (n i : ℕ) (among : Among) (claims : List Claimed) : Type 0 where
  pub within : n ≤ i
  pub lesser : AreClaimsBefore n i among claims
  pub others : (k : ℕ) → n ≤ k → k < i → claim_group_at among claims k ≡ claim_group_at among claims i
  pub slots : (k : ℕ) → k ≤ i → IsSlot (claim_at claims k).slot

-- a told range that isn't held
abbrev pub IsLone : Claimed → Type 0
IsLone c = (256 ≤ c.register) × (c.held ≡ false)

abbrev pub IsLoneAt : Among → List Claimed → ℕ → Type 0
IsLoneAt (Bus bus) claims k = IsLone (claim_at claims k)
IsLoneAt Roots claims k = ⊥

-- ---- owners

-- the addresses of some ranges that had no owner have this one now, and the others theirs
pub record AreGiven (pieces : List Range) (owner : ℕ) (before after : OwnedRanges) : Type 0 where
  pub kept : (a i : ℕ) → Owns before a i → Owns after a i
  pub only : (a i : ℕ) → Owns after a i
      → Owns before a i ⊎ (Covers pieces a × (i ≡ owner) × ((j : ℕ) → Owns before a j → ⊥))
  pub each : (a : ℕ) → Covers pieces a → (i : ℕ) × Owns after a i

-- the least address of some ranges that has an owner
pub record IsFirstOwnedPiece (ranges : OwnedRanges) (pieces : List Range) (f : Found) : Type 0 where
  pub there : Covers pieces f.address
  pub owned : Owns ranges f.address f.owner
  pub least : (a i : ℕ) → Covers pieces a → Owns ranges a i → f.address ≤ a

-- each address that one of the first so many claims answers, held ones or others, has the first of these for its owner
pub record AreClaimsOwned (held : Bool) (n : ℕ) (claims : List Claimed)
    (ranges : OwnedRanges) : Type 0 where
  pub sound : (a k : ℕ) → Owns ranges a k
      → (k < n) × ((claim_at claims k).held ≡ held) × Covers (claim_at claims k).pieces a
      × ((j : ℕ) → j < n → (claim_at claims j).held ≡ held → Covers (claim_at claims j).pieces a → k ≤ j)
  pub complete : (a k : ℕ) → k < n → (claim_at claims k).held ≡ held
      → Covers (claim_at claims k).pieces a → (j : ℕ) × Owns ranges a j

-- those that are held, and the others
pub record AreBothOwned (n : ℕ) (claims : List Claimed) (plain held : OwnedRanges) : Type 0 where
  pub of_plain : AreClaimsOwned false n claims plain
  pub of_held : AreClaimsOwned true n claims held

-- the least address of the claim at a place that has an owner, with this one
abbrev pub IsOwnedShare : OwnedRanges → List Claimed → ℕ → Option Share → Type 0
IsOwnedShare ranges claims i found =
    MatchOption found ((a k : ℕ) → Covers (claim_at claims i).pieces a → Owns ranges a k → ⊥)
    (λ s. (s.second ≡ i) × Covers (claim_at claims i).pieces s.address
    × Owns ranges s.address s.first
    × ((a k : ℕ) → Covers (claim_at claims i).pieces a → Owns ranges a k → s.address ≤ a))

-- ---- the sooner of two that were found

-- whether the first has the lesser address, or of one address the lesser index
abbrev pub is_sooner : Share → Share → Bool
is_sooner s t = nat_lt s.address t.address || (nat_eq s.address t.address && nat_lt s.first t.first)

abbrev pub sooner : Option Share → Option Share → Option Share
sooner None other = other
sooner (Some s) None = Some s
sooner (Some s) (Some t) = Some (if is_sooner t s then t else s)

-- what a claim has in common with those that have owners, held ones and others
abbrev pub IsLeastOfBoth : OwnedRanges → OwnedRanges → List Claimed → ℕ → Option Share → Type 0
IsLeastOfBoth plain held claims i found =
    (one : Option Share) × IsOwnedShare plain claims i one
    × ((other : Option Share) × IsOwnedShare held claims i other × (found ≡ sooner one other))

-- the same, but that two held ones may share it
abbrev pub IsLeastOwned : OwnedRanges → OwnedRanges → List Claimed → ℕ → Option Share → Type 0
IsLeastOwned plain held claims i found =
    (((claim_at claims i).held ≡ true) × IsOwnedShare plain claims i found)
    ⊎ (((claim_at claims i).held ≡ false) × IsLeastOfBoth plain held claims i found)
