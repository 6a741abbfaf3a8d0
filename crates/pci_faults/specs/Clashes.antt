-- Where claims of a list meet, and the clashes of a system.
use Rattle.std.specs.Prelude.{◌≡◌, ◌≢◌, ℕ, ◌<◌, ◌≤◌, ◌⊎◌, nat_le, if◌then◌else◌, List, [], Option, None, Some, MatchOption, false, length, map, slice_index_or}
use Rattle.std.specs.List.{AllPairs, Contains}
use Rattle.pci_spec.specs.System.{System}
use Rattle.pci_spec.specs.System as system
use Rattle.pci_spec.specs.Fault as plain
use Rattle.pci_spec.specs.Fault.{address_in, named_regions}
use Rattle.pci_base.specs.declared.space.Space.{Space}
use Rattle.pci_base.specs.Space.{space_of}
use Rattle.pci_tree.specs.Ranges.{Covers}
use Rattle.pci_tree.specs.Outline.{Tree}
use Rattle.pci_faults.specs.declared.shares.Among.{Among}
use Rattle.pci_faults.specs.declared.shares.Among.TheVariants.{Bus, Roots}
use Rattle.pci_faults.specs.declared.shares.Share.{Share}
use Rattle.judge_spec.specs.Given.{Given}
use Rattle.judge_spec.specs.ToldClaims.{Told}
use Rattle.judge_spec.specs.ToldAllFaults.{IsClashOf}
use Rattle.pci_claims.specs.Claim.{Claimed, AreAtOdds, may_both_claim}
use Rattle.pci_faults.specs.declared.named.Name.{Name}
use Rattle.pci_faults.specs.declared.named.Clash.{Clash}
use Rattle.pci_faults.specs.JustLines.{AreFaultsAppended}

-- ---- two claims

-- both answer an address that they may not share, on two buses
pub record AreOnTwoBuses (c d : Claimed) (a : ℕ) : Type 0 where
  pub first : Covers c.pieces a
  pub second : Covers d.pieces a
  pub apart : may_both_claim c d ≡ false
  pub buses : c.slot.bus ≢ d.slot.bus

-- two of a bus meet where they are at odds, two of the root buses where they are on two of them
abbrev pub Meet : Among → Claimed → Claimed → ℕ → Type 0
Meet (Bus bus) c d a = AreAtOdds c d a
Meet Roots c d a = AreOnTwoBuses c d a

-- the least address at which they meet
pub record IsLeastOfTwo (among : Among) (c d : Claimed) (a : ℕ) : Type 0 where
  pub there : Meet among c d a
  pub least : (b : ℕ) → Meet among c d b → a ≤ b

-- ---- claims by slot and register

-- where a list has no claim
abbrev pub missing_claim : Claimed
missing_claim = record { slot = record { bus = 0; device = 0; function = 0 }; register = 0; held = false; pieces = [] }

abbrev pub claim_at : List Claimed → ℕ → Claimed
claim_at claims k = slice_index_or claims k missing_claim

-- two claims of a list, one before the other, meet at an address
pub record AreMeeting (among : Among) (claims : List Claimed) (a first second : ℕ) : Type 0 where
  pub within : second < length claims
  pub before : first < second
  pub meet : Meet among (claim_at claims first) (claim_at claims second) a

-- of the first so many claims: the least address at which one meets the second, and the first that does
pub record IsLeastBelow (among : Among) (n : ℕ) (claims : List Claimed) (s : Share) : Type 0 where
  pub below : s.first < n
  pub there : AreMeeting among claims s.address s.first s.second
  pub least : (a first : ℕ) → first < n → AreMeeting among claims a first s.second
      → (s.address < a) ⊎ ((s.address ≡ a) × (s.first ≤ first))

-- one was found, or there is none
abbrev pub IsFoundBelow : Among → ℕ → List Claimed → ℕ → Option Share → Type 0
IsFoundBelow among n claims second found =
    MatchOption found ((a first : ℕ) → first < n → AreMeeting among claims a first second → ⊥)
    (λ s. (s.second ≡ second) × IsLeastBelow among n claims s)

-- the one with the lesser address; of two with one address the one that was found before
abbrev pub lesser : Option Share → Share → Share
lesser None share = share
lesser (Some found) share = if nat_le found.address share.address then found else share

-- each of the first so many claims that meets one before it, with the least address and the first of those
pub record AreMeetingsBelow (among : Among) (n : ℕ) (claims : List Claimed)
    (shares : List Share) : Type 0 where
  pub each : (s : Share) → Contains shares s
      → (s.second < n) × IsLeastBelow among s.second claims s
  pub complete : (s : Share) → s.second < n → IsLeastBelow among s.second claims s
      → Contains shares s
  pub rising : AllPairs (λ s t. s.second < t.second) shares

-- of all of them
abbrev pub AreMeetings : Among → List Claimed → List Share → Type 0
AreMeetings among claims shares = AreMeetingsBelow among (length claims) claims shares

-- ---- faults

abbrev pub claim_name : Claimed → Name
claim_name c = record { slot = c.slot; register = c.register }

-- the clash that two claims of a list tell of
abbrev pub claims_clash : ℕ → Space → List Claimed → Share → Clash
claims_clash bus space claims s = record {
  bus = bus;
  space = space;
  address = s.address;
  first = claim_name (claim_at claims s.first);
  second = claim_name (claim_at claims s.second);
}

abbrev pub clash_value : Clash → plain.Fault
clash_value c =
    plain.Clash c.bus (space_of c.space) c.address c.first.slot c.first.register c.second.slot c.second.register

-- the fault is a clash that a list of all names, on a bus and in a space that are meant
abbrev pub IsClashLine : (ℕ → system.Space → Type 0) → Told → Given → List ℕ → System → plain.Fault
    → Type 0
IsClashLine At told given roots s
    (plain.Clash bus space address first first_register second second_register) =
    At bus space
    × IsClashOf told given roots s bus (address_in space address)
    (named_regions first first_register second second_register)
IsClashLine At told given roots s fault = ⊥

-- they come behind those of a list, in each system with the tree
abbrev pub AreClashesAdded : (ℕ → system.Space → Type 0) → Told → Given → Tree → List Clash
    → List Clash → Type 0
AreClashesAdded At told given t before after =
    AreFaultsAppended t (IsClashLine At told given t.roots) (map clash_value before) (map clash_value after)

-- of one bus and space
abbrev pub IsOnBusIn : ℕ → system.Space → ℕ → system.Space → Type 0
IsOnBusIn bus space b sp = (b ≡ bus) × (sp ≡ space)
