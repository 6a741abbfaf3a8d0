-- All claims of a bus: those of regions that registers show, and those of told ranges.
use Rattle.std.specs.Prelude.{◌≡◌, ℕ, ◌<◌, ◌≤◌, ◌↔◌, Bool, true, false, IsTrue, List, length, Some, slice_index_or}
use Rattle.std.specs.List.{AllPairs, AllWithin, Contains, slice_get}
use Rattle.pci_spec.specs.Slot.{Slot, IsSlot}
use Rattle.pci_spec.specs.System.{System, Space}
use Rattle.pci_spec.specs.Fault.{address_in, named_region}
use Rattle.pci_base.specs.declared.range.Range.{Range}
use Rattle.pci_tree.specs.Ranges.{Covers}
use Rattle.pci_tree.specs.Outline.{Tree}
use Rattle.pci_tree.specs.Trees.{HasTree}
use Rattle.judge_spec.specs.Given.{Given, starts}
use Rattle.judge_spec.specs.Claims.{Gets}
use Rattle.judge_spec.specs.Told.{ToldRange, IsTold}
use Rattle.judge_spec.specs.ToldClaims.{Told, ClaimsOnBus, told_register, is_marked_held, is_held}
use Rattle.pci_claims.specs.declared.all_claims.Stretch.{Stretch}
use Rattle.pci_claims.specs.Claim.{Claimed}
use Rattle.pci_claims.specs.BusClaims.{claim_number, AreBridgesOf}
use Rattle.pci_claims.specs.ToldOn.{AreOnIn}

-- its addresses are just those of the space that it claims, and at which an access gets to the bus
abbrev pub IsClaimWith : Told → Given → List ℕ → System → ℕ → Space → Claimed → Type 0
IsClaimWith told given roots s bus space c =
    (a : ℕ) → Covers c.pieces a
    ↔ (Gets given roots s space a bus × ClaimsOnBus told given s bus (address_in space a)
    (named_region c.slot c.register))

-- the claim has a slot of the bus, and the offset of a register or the number of a told range
pub record IsClaimOnBus (bus : ℕ) (c : Claimed) : Type 0 where
  pub slot : IsSlot c.slot
  pub on_bus : c.slot.bus ≡ bus
  pub register : c.register < 8192

-- of each region of the bus that claims an address of the space there is one claim, by slot and register
pub record AreClaimsOn (told : Told) (given : Given) (roots : List ℕ) (s : System) (bus : ℕ)
    (space : Space) (claims : List Claimed) : Type 0 where
  pub each : (c : Claimed) → Contains claims c → IsClaimWith told given roots s bus space c
  pub complete : (slot : Slot) (register a : ℕ)
      → ClaimsOnBus told given s bus (address_in space a) (named_region slot register)
      → (c : Claimed) × Contains claims c × (c.slot ≡ slot) × (c.register ≡ register)
  pub rising : AllPairs (λ c d. claim_number c < claim_number d) claims
  -- also of a claim that answers no address
  pub placed : (c : Claimed) → Contains claims c → IsClaimOnBus bus c
  pub held : (c : Claimed) → Contains claims c → c.held ≡ is_held told c.register
  -- no bridge leads to a root bus, so what gets there is what the host sends to it
  pub sent : Contains roots bus → (c : Claimed) → Contains claims c → (a : ℕ) → Covers c.pieces a
      → IsTrue (starts given space bus a)

-- in each system with the tree
abbrev pub AreClaimsInEach : Told → Given → Tree → ℕ → Space → List Claimed → Type 0
AreClaimsInEach told given t bus space claims =
    (s : System) → HasTree t s → AreClaimsOn told given t.roots s bus space claims

-- what claims are looked for in: ranges of a text with whether each is on, and the slots of all bridges
pub record IsClaimsBoard (told : Told) (t : Tree) (on : List Bool) (bridges : List Slot) : Type 0 where
  pub lawful : IsTold told.ranges
  pub each_on : AreOnIn told t on
  pub all_bridges : AreBridgesOf t bridges

-- ---- told ranges

-- the ranges from one index to before another are those of a bus
pub record IsStretchOf (ranges : List ToldRange) (bus : ℕ) (stretch : Stretch) : Type 0 where
  pub low : stretch.first ≤ stretch.end
  pub high : stretch.end ≤ length ranges
  pub before : AllWithin (λ r. r.slot.bus < bus) ranges 0 stretch.first
  pub at : AllWithin (λ r. r.slot.bus ≡ bus) ranges stretch.first stretch.end
  pub after : AllWithin (λ r. bus < r.slot.bus) ranges stretch.end (length ranges)

-- the claim of a range, of which the addresses of some ranges get to its bus
pub record IsClaimOfRange (r : ToldRange) (number : ℕ) (reach : List Range)
    (c : Claimed) : Type 0 where
  pub slot : c.slot ≡ r.slot
  pub register : c.register ≡ number
  pub held : c.held ≡ is_marked_held r.mark
  pub exact : (a : ℕ) → Covers c.pieces a ↔ (((r.first ≤ a) × (a ≤ r.last)) × Covers reach a)

-- the range at an index of a part of the list is on, and of the space
pub record IsOnAt (ranges : List ToldRange) (flags : List Bool) (first end : ℕ) (sp : Space) (k : ℕ)
    (r : ToldRange) : Type 0 where
  pub from : first ≤ k
  pub to : k < end
  pub at : slice_get ranges k ≡ Some r
  pub on : slice_index_or flags k false ≡ true
  pub space : r.space ≡ sp

-- of each such range there is one claim, by their order
pub record AreRangeClaims (ranges : List ToldRange) (on : List Bool) (first end : ℕ) (space : Space)
    (reach : List Range) (claims : List Claimed) : Type 0 where
  pub each : (c : Claimed) → Contains claims c
      → (k : ℕ) × (r : ToldRange) × IsOnAt ranges on first end space k r
      × IsClaimOfRange r (told_register k) reach c
  pub complete : (k : ℕ) (r : ToldRange) → IsOnAt ranges on first end space k r
      → (c : Claimed) × Contains claims c × IsClaimOfRange r (told_register k) reach c
  pub rising : AllPairs (λ c d. c.register < d.register) claims
