-- Buses on which no two regions claim an address that they may not share, whatever gets there.
use Rattle.std.specs.Prelude.{◌≡◌, ℕ, ◌<◌, ◌≤◌, ◌⊎◌, true, false, IsFalse, IsTrue, List, length}
use Rattle.std.specs.List.{Contains}
use Rattle.pci_spec.specs.Slot.{Slot}
use Rattle.pci_spec.specs.Registers.{BRIDGE_CONTROL}
use Rattle.pci_spec.specs.System.{System, Space}
use Rattle.pci_spec.specs.Fault.{address_in, named_region}
use Rattle.pci_base.specs.declared.range.Range.{Range}
use Rattle.pci_tree.specs.declared.region.Region.{Region}
use Rattle.pci_tree.specs.Ranges.{Covers}
use Rattle.pci_tree.specs.Outline.{Tree}
use Rattle.pci_tree.specs.Trees.{HasTree}
use Rattle.judge_spec.specs.Given.{Given, legacy_holds, palette_holds}
use Rattle.judge_spec.specs.Claims.{ClaimsOnBus, may_share}
use Rattle.judge_spec.specs.ToldClaims as told_claims
use Rattle.pci_claims.specs.declared.given.LegacyBridge.{LegacyBridge}

-- the region may share each address that it has of the legacy part of the bridge at a slot
abbrev pub IsOff : Slot → List Range → Region → Type 0
IsOff bridge pieces r =
    (a : ℕ) → r.first ≤ a → a ≤ r.last → Covers pieces a
    → may_share r.slot r.reg bridge BRIDGE_CONTROL ≡ true

abbrev pub IsOffLegacy : Space → LegacyBridge → Region → Type 0
IsOffLegacy space bridge r =
    (a : ℕ) → r.first ≤ a → a ≤ r.last → IsTrue (legacy_holds bridge.is_wide space a)
    → may_share r.slot r.reg bridge.slot BRIDGE_CONTROL ≡ true

-- the list has those of some bridges that are on some buses
abbrev pub HasThoseOn : (ℕ → Type 0) → List LegacyBridge → List LegacyBridge → Type 0
HasThoseOn IsOne bridges out =
    (bridge : LegacyBridge) → Contains bridges bridge → IsOne bridge.slot.bus → Contains out bridge

-- no palette part of these bridges has an address of the space
abbrev pub HoldNothing : Space → List LegacyBridge → Type 0
HoldNothing space palette =
    (bridge : LegacyBridge) (a : ℕ) → Contains palette bridge
    → IsFalse (palette_holds bridge.is_wide space a)

-- the regions have no address in common, at most one bridge has a legacy part, and each region may share what it has of it
pub record AreQuiet (space : Space) (regions : List Region) (legacy : List LegacyBridge) : Type 0 where
  pub apart : (p q : Region) → Contains regions p → Contains regions q
      → (p ≡ q) ⊎ ((p.last < q.first) ⊎ (q.last < p.first))
  pub one : length legacy ≤ 1
  pub off : (bridge : LegacyBridge) (r : Region) → Contains legacy bridge → Contains regions r
      → IsOffLegacy space bridge r

-- no two regions of some buses claim an address that they may not share
abbrev pub IsQuietOnBuses : Given → System → (ℕ → Type 0) → Space → Type 0
IsQuietOnBuses given s IsOne space =
    (a b c : ℕ) (p q : Slot) (m n : ℕ) → IsOne b → IsOne c
    → ClaimsOnBus given s b (address_in space a) (named_region p m)
    → ClaimsOnBus given s c (address_in space a) (named_region q n)
    → ((p ≡ q) × (m ≡ n) → ⊥) → may_share p m q n ≡ false → ⊥

-- in each system with the tree
abbrev pub IsQuietInEach : Given → Tree → (ℕ → Type 0) → Space → Type 0
IsQuietInEach given t IsOne space = (s : System) → HasTree t s → IsQuietOnBuses given s IsOne space

-- with what is told, no two regions of some buses claim an address that they may not share, in each system with the tree
abbrev pub IsQuietWith : told_claims.Told → Given → Tree → (ℕ → Type 0) → Space → Type 0
IsQuietWith told given t IsOne space =
    (s : System) → HasTree t s → (a b c : ℕ) (p q : Slot) (m n : ℕ) → IsOne b → IsOne c
    → told_claims.ClaimsOnBus told given s b (address_in space a) (named_region p m)
    → told_claims.ClaimsOnBus told given s c (address_in space a) (named_region q n)
    → ((p ≡ q) × (m ≡ n) → ⊥) → told_claims.may_share told p m q n ≡ false → ⊥
