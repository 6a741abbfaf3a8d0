-- The claims of a bus of regions that registers show.
use Rattle.std.specs.Prelude.{◌≡◌, ℕ, ◌<◌, ◌==◌, ◌&&◌, ◌++◌, false, IsTrue, List, map}
use Rattle.std.specs.Option.{is_some}
use Rattle.std.specs.List.{AllPairs, Contains, filter, list_any}
use Rattle.pci_spec.specs.Slot.{Slot, same_slot}
use Rattle.pci_spec.specs.System.{System, Function, Space, is_bridge}
use Rattle.pci_spec.specs.Decoded.{HasRecords}
use Rattle.pci_spec.specs.Fault.{address_in, named_region}
use Rattle.pci_base.specs.declared.range.Range.{Range}
use Rattle.pci_base.specs.Space.{is_on}
use Rattle.pci_function.specs.declared.record.Record.{Record}
use Rattle.pci_tree.specs.declared.region.Region.{Region}
use Rattle.pci_tree.specs.Ranges.{Covers}
use Rattle.pci_tree.specs.Regions.{AreRegionsOf}
use Rattle.pci_tree.specs.Outline.{Tree}
use Rattle.pci_tree.specs.Trees.{HasTree}
use Rattle.judge_spec.specs.Given.{Given, starts}
use Rattle.judge_spec.specs.Claims.{Claims, ClaimsOnBus}
use Rattle.judge_spec.specs.ToldAllFaults.{region_number}
use Rattle.pci_claims.specs.declared.legacy.FixedPart.{FixedPart}
use Rattle.pci_claims.specs.Legacy.{bridges_with, fixed_part_of, register_of_part}
use Rattle.pci_claims.specs.Claim.{Claimed, IsClaimOn, IsClaimAmong, IsClaimOfRegion, IsClaimOfPart}
use Rattle.pci_claims.specs.Made.{AreOneEach}

-- the place of a claim in the order of slots and registers
abbrev pub claim_number : Claimed → ℕ
claim_number c = region_number c.slot c.register

-- the claim has the slot of a function of the bus, and an offset for its register
pub record IsNamedOn (s : System) (bus : ℕ) (c : Claimed) : Type 0 where
  pub f : Function
  pub listed : Contains s f
  pub slot : f.slot ≡ c.slot
  pub on_bus : c.slot.bus ≡ bus
  pub register : c.register < 256

-- of each region of the bus that claims an address of the space there is one claim, by slot and register
pub record AreRegisterClaimsOn (given : Given) (roots : List ℕ) (s : System) (bus : ℕ) (space : Space)
    (claims : List Claimed) : Type 0 where
  pub each : (c : Claimed) → Contains claims c → IsClaimOn given roots s bus space c
  pub complete : (slot : Slot) (register a : ℕ)
      → ClaimsOnBus given s bus (address_in space a) (named_region slot register)
      → (c : Claimed) × Contains claims c × (c.slot ≡ slot) × (c.register ≡ register)
  pub rising : AllPairs (λ c d. claim_number c < claim_number d) claims
  -- also of a claim that answers no address
  pub named : (c : Claimed) → Contains claims c → IsNamedOn s bus c
  pub plain : (c : Claimed) → Contains claims c → c.held ≡ false
  -- no bridge leads to a root bus, so what gets there is what the host sends to it
  pub sent : Contains roots bus → (c : Claimed) → Contains claims c → (a : ℕ) → Covers c.pieces a
      → IsTrue (starts given space bus a)

-- in each system with the tree
abbrev pub AreRegisterClaimsInEach : Given → Tree → ℕ → Space → List Claimed → Type 0
AreRegisterClaimsInEach given t bus space claims =
    (s : System) → HasTree t s → AreRegisterClaimsOn given t.roots s bus space claims

-- the same of the addresses of some ranges, in any order
pub record AreRegisterClaimsAmong (given : Given) (s : System) (bus : ℕ) (space : Space)
    (reach : List Range) (claims : List Claimed) : Type 0 where
  pub each : (c : Claimed) → Contains claims c → IsClaimAmong given s bus space reach c
  pub complete : (slot : Slot) (register a : ℕ)
      → ClaimsOnBus given s bus (address_in space a) (named_region slot register)
      → (c : Claimed) × Contains claims c × (c.slot ≡ slot) × (c.register ≡ register)
  pub differ : AllPairs (λ c d. claim_number c ≡ claim_number d → ⊥) claims
  pub named : (c : Claimed) → Contains claims c → IsNamedOn s bus c
  pub plain : (c : Claimed) → Contains claims c → c.held ≡ false

-- of each legacy part and palette part of the bus that claims an address of the space there is one claim
pub record AreClaimsOfParts (given : Given) (s : System) (bus : ℕ) (space : Space)
    (reach : List Range) (claims : List Claimed) : Type 0 where
  pub each : (c : Claimed) → Contains claims c → IsClaimAmong given s bus space reach c
  pub complete : (f : Function) (part : FixedPart) (a : ℕ) → Contains s f → f.slot.bus ≡ bus
      → Claims given f (fixed_part_of part) space a
      → (c : Claimed) × Contains claims c × (c.slot ≡ f.slot) × (c.register ≡ register_of_part part)

-- the regions of a bus and a space that address registers show, and of some bridges those of the bus
pub record AreOnBus (s : System) (bus : ℕ) (space : Space) (all : List Slot)
    (found : List Region) (here : List Slot) : Type 0 where
  pub regions : AreRegionsOf s bus space found
  pub bridges : here ≡ filter (λ slot. slot.bus == bus) all

-- ---- how they are made

-- the place of a region in the order of slots and registers
abbrev pub number_of_region : Region → ℕ
number_of_region r = region_number r.slot r.reg

-- each region has one
abbrev pub AreRegionClaims : Given → Space → List Region → List Range → List Claimed → Type 0
AreRegionClaims given space regions reach claims =
    AreOneEach (λ r c. IsClaimOfRegion given space r reach c) (λ r. Unit {0}) number_of_region
    claim_number regions claims

-- the record is of a bridge at the slot that answers accesses of the space
abbrev pub IsAnsweringBridge : List Record → Space → Slot → Record → Type 0
IsAnsweringBridge records space slot r =
    Contains records r × (r.slot ≡ slot) × IsTrue (is_some r.bridge && is_on r.command space)

-- the bridge at a slot has the part
abbrev pub HasFixedPart : Given → FixedPart → Slot → Type 0
HasFixedPart given part slot =
    IsTrue (list_any (λ entry. same_slot entry.slot slot) (bridges_with given part))

-- the record is of such a bridge with the part
abbrev pub IsAnsweringPart : Given → FixedPart → List Record → Space → Slot → Record → Type 0
IsAnsweringPart given part records space slot r =
    IsAnsweringBridge records space slot r × HasFixedPart given part slot

abbrev pub IsPartClaimAt : Given → FixedPart → Space → List Record → List Range → Slot → Claimed
    → Type 0
IsPartClaimAt given part space records reach slot c =
    (r : Record) × IsAnsweringPart given part records space slot r
    × IsClaimOfPart given part space r reach c

-- each slot of a bridge that answers accesses of the space and has the part has one
abbrev pub ArePartClaims : Given → FixedPart → Space → List Record → List Range → List Slot
    → List Claimed → Type 0
ArePartClaims given part space records reach slots claims =
    AreOneEach (IsPartClaimAt given part space records reach)
    (λ slot. (r : Record) × IsAnsweringPart given part records space slot r)
    (λ slot. region_number slot (register_of_part part)) claim_number slots claims

-- they come behind others
pub record AreMoreClaims (AreSo : List Claimed → Type 0)
    (before after : List Claimed) : Type 0 where
  pub more : List Claimed
  pub appended : after ≡ before ++ more
  pub made : AreSo more

-- the slots of the bridges
abbrev pub AreBridgesOf : Tree → List Slot → Type 0
AreBridgesOf t slots =
    (s : System) → HasRecords s t.records → slots ≡ map (λ f. f.slot) (filter is_bridge s)
