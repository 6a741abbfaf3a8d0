-- What no region of a bus claims.
use Rattle.std.specs.Prelude.{◌≡◌, ℕ, ◌≤◌, ◌⊎◌, ◌↔◌, IsFalse, List, map}
use Rattle.std.specs.List.{All, Contains}
use Rattle.pci_spec.specs.System.{System, Function, Space}
use Rattle.pci_spec.specs.Fault.{RegionName, address_in, named_region}
use Rattle.pci_spec.specs.Why.{AreRuns}
use Rattle.pci_base.specs.declared.range.Range.{Range}
use Rattle.pci_base.specs.Ranges.{decoded_range_of}
use Rattle.pci_tree.specs.declared.region.Region.{Region}
use Rattle.pci_tree.specs.Ranges.{Covers}
use Rattle.judge_spec.specs.Given.{Given}
use Rattle.judge_spec.specs.Claims.{Claims}
use Rattle.judge_spec.specs.ToldClaims.{Told, ClaimsOnBus, RangeClaimsOnBus}
use Rattle.judge_spec.specs.Unclaimed.{IsUnclaimedOn}
use Rattle.pci_claims.specs.declared.legacy.FixedPart.{FixedPart}
use Rattle.pci_claims.specs.Legacy.{fixed_part_of}
use Rattle.pci_claims.specs.Claim.{Claimed, is_cut_from}

-- one of a list has the address
abbrev pub OneHas : {X : Type 0} → (X → ℕ → Type 0) → List X → ℕ → Type 0
OneHas Has xs a = (x : _) × Contains xs x × Has x a

-- a region has the address, and ISA Enable doesn't take it
abbrev pub IsLeft : Given → Space → Region → ℕ → Type 0
IsLeft given space r a =
    ((r.first ≤ a) × (a ≤ r.last)) × IsFalse (is_cut_from given space r a)

-- a claim has the address
abbrev pub IsAnswered : Claimed → ℕ → Type 0
IsAnswered c a = Covers c.pieces a

-- some ranges, none of them empty, and with them those of more addresses
pub record AreMorePieces (IsMore : ℕ → Type 0) (before out : List Range) : Type 0 where
  pub lawful : All (λ r. r.first ≤ r.last) before → All (λ r. r.first ≤ r.last) out
  pub exact : (a : ℕ) → Covers out a ↔ (Covers before a ⊎ IsMore a)

-- claims of the legacy parts, the palette parts and the told ranges of a bus
pub record AreOtherClaimsOn (told : Told) (given : Given) (s : System) (bus : ℕ) (space : Space)
    (claims : List Claimed) : Type 0 where
  pub each : (c : Claimed) (a : ℕ) → Contains claims c → IsAnswered c a
      → ClaimsOnBus told given s bus (address_in space a) (named_region c.slot c.register)
  pub parts : (f : Function) (part : FixedPart) (a : ℕ) → Contains s f → f.slot.bus ≡ bus
      → Claims given f (fixed_part_of part) space a → OneHas IsAnswered claims a
  pub ranges : (region : RegionName) (a : ℕ)
      → RangeClaimsOnBus told s bus (address_in space a) region → OneHas IsAnswered claims a

-- they have just the addresses of the space that some region of the bus claims
abbrev pub AreClaimedOn : Told → Given → System → ℕ → Space → List Range → Type 0
AreClaimedOn told given s bus space out =
    (a : ℕ) → Covers out a
    ↔ ((region : RegionName) × ClaimsOnBus told given s bus (address_in space a) region)

-- the greatest runs of addresses that no region of a bus claims
abbrev pub AreUnclaimedRuns : Told → Given → System → ℕ → Space → List Range → Type 0
AreUnclaimedRuns told given s bus space out =
    AreRuns (IsUnclaimedOn told given s bus space) (map decoded_range_of out)
