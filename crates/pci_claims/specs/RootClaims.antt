-- The claims of all root buses.
use Rattle.std.specs.Prelude.{◌≡◌, ℕ, ◌<◌, ◌↔◌, IsTrue, List}
use Rattle.std.specs.List.{AllPairs, Contains}
use Rattle.pci_spec.specs.Slot.{Slot}
use Rattle.pci_spec.specs.System.{System, Space}
use Rattle.pci_spec.specs.Fault.{address_in, named_region}
use Rattle.pci_tree.specs.Ranges.{Covers}
use Rattle.pci_tree.specs.Outline.{Tree}
use Rattle.pci_tree.specs.Trees.{HasTree}
use Rattle.judge_spec.specs.Given.{Given, starts}
use Rattle.judge_spec.specs.ToldClaims.{Told, ClaimsOnBus, is_held}
use Rattle.pci_claims.specs.Claim.{Claimed}
use Rattle.pci_claims.specs.BusClaims.{claim_number}
use Rattle.pci_claims.specs.AllClaims.{IsClaimOnBus}

-- its addresses are just those of the space that the region claims, and that the host sends to its bus
abbrev pub IsClaimSent : Told → Given → System → Space → Claimed → Type 0
IsClaimSent told given s space c =
    (a : ℕ) → Covers c.pieces a
    ↔ (IsTrue (starts given space c.slot.bus a)
    × ClaimsOnBus told given s c.slot.bus (address_in space a) (named_region c.slot c.register))

-- of each region of some buses that claims an address of the space there is one claim, by slot and register
pub record AreClaimsOver (told : Told) (given : Given) (IsOne : ℕ → Type 0) (s : System)
    (space : Space) (claims : List Claimed) : Type 0 where
  pub one : (c : Claimed) → Contains claims c → IsOne c.slot.bus
  pub placed : (c : Claimed) → Contains claims c → IsClaimOnBus c.slot.bus c
  pub held : (c : Claimed) → Contains claims c → c.held ≡ is_held told c.register
  pub each : (c : Claimed) → Contains claims c → IsClaimSent told given s space c
  pub complete : (slot : Slot) (register a : ℕ) → IsOne slot.bus
      → ClaimsOnBus told given s slot.bus (address_in space a) (named_region slot register)
      → (c : Claimed) × Contains claims c × (c.slot ≡ slot) × (c.register ≡ register)
  pub rising : AllPairs (λ c d. claim_number c < claim_number d) claims

-- of all root buses, in each system with the tree
abbrev pub AreRootClaimsInEach : Told → Given → Tree → Space → List Claimed → Type 0
AreRootClaimsInEach told given t space claims =
    (s : System) → HasTree t s → AreClaimsOver told given (Contains t.roots) s space claims
