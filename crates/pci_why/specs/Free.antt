-- What is free for a region that would move.
use Rattle.std.specs.Prelude.{◌≡◌, ◌⊎◌, ℕ, ◌≤◌, ◌↔◌, Bool, ◌&&◌, ◌||◌, false, IsTrue, List}
use Rattle.std.specs.List.{All, Contains}
use Rattle.pci_spec.specs.Slot.{Slot, same_slot}
use Rattle.pci_spec.specs.System.{System, Function, Space, IsAddress}
use Rattle.pci_spec.specs.System as system
use Rattle.pci_spec.specs.Bus.{IsNested}
use Rattle.pci_spec.specs.Why.{Region as RegionValue}
use Rattle.pci_spec.specs.Fault.{Address, RegionName, address_in, named_region}
use Rattle.judge_spec.specs.Given.{Given, starts}
use Rattle.judge_spec.specs.Claims.{Gets, IsPassedTo, may_share}
use Rattle.judge_spec.specs.ToldClaims.{Told, ClaimsOnBus, is_held}
use Rattle.judge_spec.specs.Why.{IsTakenBeside}
use Rattle.pci_base.specs.declared.range.Range.{Range}
use Rattle.pci_tree.specs.declared.region.Region.{Region}
use Rattle.pci_tree.specs.Ranges.{Covers}
use Rattle.pci_tree.specs.Regions.{IsRegionOf}
use Rattle.pci_tree.specs.Outline.{Tree}
use Rattle.pci_tree.specs.Trees.{HasTree}
use Rattle.pci_claims.specs.Claim.{Claimed}
use Rattle.pci_claims.specs.Found.{region_of_found}

-- ---- what others answer

-- whether a region of a function may have one address with the claim
abbrev pub may_stand_at : Slot → ℕ → Claimed → Bool
may_stand_at slot register c =
    may_share slot register c.slot c.register || (c.held && same_slot c.slot slot)

-- the claim is of another region than the one that a slot and a register name, and may not share an address with it
abbrev pub IsOther : Slot → ℕ → Claimed → Type 0
IsOther slot register c =
    ((c.slot ≡ slot) × (c.register ≡ register) → ⊥) × (may_stand_at slot register c ≡ false)

-- such a claim has the address
pub record IsAnsweredBeside (claims : List Claimed) (slot : Slot) (register a : ℕ) : Type 0 where
  pub c : Claimed
  pub has : Contains claims c
  pub other : IsOther slot register c
  pub covered : Covers c.pieces a

-- ranges with just those addresses
pub record AreOfOthers (claims : List Claimed) (slot : Slot) (register : ℕ)
    (out : List Range) : Type 0 where
  pub lawful : All (λ r. r.first ≤ r.last) out
  pub exact : (a : ℕ) → Covers out a ↔ IsAnsweredBeside claims slot register a

-- ---- the regions that can clash with one of a bus

-- the bus itself, or where that is a root bus another one on which accesses to the address start, too
abbrev pub IsBesideBus : Given → List ℕ → ℕ → Space → ℕ → ℕ → Type 0
IsBesideBus given roots bus space a other =
    (other ≡ bus) ⊎ (Contains roots bus × Contains roots other × IsTrue (starts given space other a))

-- a region of such a bus, named by its slot and register, claims the address
pub record ClaimsBeside (told : Told) (given : Given) (roots : List ℕ) (s : System) (bus : ℕ)
    (at : Address) (region : RegionName) : Type 0 where
  pub beside : IsBesideBus given roots bus at.space at.address region.slot.bus
  pub claims : ClaimsOnBus told given s region.slot.bus at region

-- a claim of the region that a slot and a register name has the address
pub record HasClaimOf (claims : List Claimed) (slot : Slot) (register a : ℕ) : Type 0 where
  pub c : Claimed
  pub has : Contains claims c
  pub slot_is : c.slot ≡ slot
  pub register_is : c.register ≡ register
  pub covered : Covers c.pieces a

-- what these regions claim, at least of the addresses that get to the bus
pub record AreClaimsBeside (told : Told) (given : Given) (roots : List ℕ) (s : System) (bus : ℕ)
    (space : Space) (claims : List Claimed) : Type 0 where
  pub each : (c : Claimed) (a : ℕ) → Contains claims c → Covers c.pieces a
      → ClaimsBeside told given roots s bus (address_in space a) (named_region c.slot c.register)
  pub complete : (slot : Slot) (register a : ℕ) → Gets given roots s space a bus
      → ClaimsBeside told given roots s bus (address_in space a) (named_region slot register)
      → HasClaimOf claims slot register a
  pub held : (c : Claimed) → Contains claims c → c.held ≡ is_held told c.register

-- in each system with the tree, whose buses nest
abbrev pub AreClaimsBesideInEach : Told → Given → Tree → ℕ → Space → List Claimed → Type 0
AreClaimsBesideInEach told given t bus space claims =
    (s : System) → HasTree t s → IsNested t.roots s
    → AreClaimsBeside told given t.roots s bus space claims

-- ---- what is left

-- an access to the address gets to the region's bus, and no other region claims it that can clash there
pub record IsFreeFor (told : Told) (given : Given) (roots : List ℕ) (s : System)
    (q : RegionValue) (a : ℕ) : Type 0 where
  pub address : IsAddress q.space a
  pub reached : IsPassedTo given roots s (address_in q.space a) q.prefetchable q.slot.bus
  pub free : IsTakenBeside told given roots s q a → ⊥

-- just those addresses, in each system with the tree that has the region
abbrev pub AreFreeFor : Told → Given → Tree → Space → Region → List Range → Type 0
AreFreeFor told given t space q out =
    (s : System) (f : Function) (part : system.Part) → HasTree t s → IsNested t.roots s
    → Contains s f → IsRegionOf f part space q
    → (a : ℕ) → Covers out a ↔ IsFreeFor told given t.roots s (region_of_found q part space) a
