-- Claims of a bus, and what two lists of ranges have in common.
use Rattle.std.specs.Prelude.{◌≡◌, ℕ, ◌<◌, ◌≤◌, ◌↔◌, Bool, ◌&&◌, ◌||◌, false, IsTrue, IsFalse, List}
use Rattle.std.specs.List.{Contains}
use Rattle.pci_spec.specs.Slot.{Slot, same_slot}
use Rattle.pci_spec.specs.System.{System, Function, Space, IsAddress, IsSystem}
use Rattle.pci_spec.specs.Decoded.{record_of}
use Rattle.pci_spec.specs.Fault.{address_in, named_region}
use Rattle.pci_base.specs.declared.range.Range.{Range}
use Rattle.pci_function.specs.declared.record.Record.{Record}
use Rattle.pci_function.specs.Values.{record_value}
use Rattle.pci_tree.specs.declared.region.Region.{Region}
use Rattle.pci_tree.specs.Ranges.{Covers, IsCanonical}
use Rattle.pci_tree.specs.Regions.{IsRegionOn, is_of_window}
use Rattle.judge_spec.specs.Given.{Given, is_cut}
use Rattle.judge_spec.specs.Claims.{Gets, ClaimsOnBus, may_share}
use Rattle.pci_claims.specs.declared.legacy.FixedPart.{FixedPart}
use Rattle.pci_claims.specs.Legacy.{register_of_part}
use Rattle.pci_claims.specs.Passed.{legacy_passes, palette_claims_of}

-- the two lists have no address in common
abbrev pub ShareNoAddress : List Range → List Range → Type 0
ShareNoAddress rs ss = (a : ℕ) → Covers rs a → Covers ss a → ⊥

-- the least address that both lists have
pub record IsLeastCommon (rs ss : List Range) (a : ℕ) : Type 0 where
  pub first : Covers rs a
  pub second : Covers ss a
  pub least : (b : ℕ) → b < a → Covers rs b → Covers ss b → ⊥

-- a region of a bus, named by its slot and register, and addresses that it answers there
pub record Claimed : Type 0 where
  pub slot : Slot
  pub register : ℕ
  -- whether the region is a held range
  pub held : Bool
  pub pieces : List Range

-- they are just those of the space that it claims, and at which an access gets to the bus
abbrev pub IsClaimOn : Given → List ℕ → System → ℕ → Space → Claimed → Type 0
IsClaimOn given roots s bus space c =
    (a : ℕ) → Covers c.pieces a
    ↔ (Gets given roots s space a bus × ClaimsOnBus given s bus (address_in space a)
    (named_region c.slot c.register))

-- they are just those of some ranges that it claims
abbrev pub IsClaimAmong : Given → System → ℕ → Space → List Range → Claimed → Type 0
IsClaimAmong given s bus space reach c =
    (a : ℕ) → Covers c.pieces a
    ↔ (Covers reach a × ClaimsOnBus given s bus (address_in space a)
    (named_region c.slot c.register))

-- whether the first is of a held range, and the second of another one, or of a region of the same function
abbrev pub is_held_claim_beside : Claimed → Claimed → Bool
is_held_claim_beside c d = c.held && (d.held || same_slot c.slot d.slot)

-- whether two may have one address
abbrev pub may_both_claim : Claimed → Claimed → Bool
may_both_claim c d =
    may_share c.slot c.register d.slot d.register || is_held_claim_beside c d || is_held_claim_beside d c

-- both answer an address that they may not share
pub record AreAtOdds (c d : Claimed) (a : ℕ) : Type 0 where
  pub first : Covers c.pieces a
  pub second : Covers d.pieces a
  pub apart : may_both_claim c d ≡ false

-- the least such address
pub record IsLeastAtOdds (c d : Claimed) (a : ℕ) : Type 0 where
  pub there : AreAtOdds c d a
  pub least : (b : ℕ) → AreAtOdds c d b → a ≤ b

-- whether ISA Enable takes an address of a space from the region
abbrev pub is_cut_from : Given → Space → Region → ℕ → Bool
is_cut_from given space r a = is_of_window r.part && is_cut given space a r.slot

-- the addresses of a region that ISA Enable doesn't take
pub record AreAddressesOf (given : Given) (space : Space) (r : Region) (out : List Range) : Type 0 where
  pub canonical : IsCanonical out
  pub exact : (a : ℕ) → Covers out a
      ↔ (((r.first ≤ a) × (a ≤ r.last)) × IsFalse (is_cut_from given space r a))

-- the claim of a region on each bus, of those ranges
pub record IsClaimOfRegion (given : Given) (space : Space) (r : Region) (reach : List Range)
    (c : Claimed) : Type 0 where
  pub slot : c.slot ≡ r.slot
  pub register : c.register ≡ r.reg
  pub held : c.held ≡ false
  pub exact : (s : System) (bus : ℕ) → IsSystem s → IsRegionOn s bus space r
      → IsClaimAmong given s bus space reach c

-- the addresses of a space that the legacy parts of the bridge with the record answer
pub record IsLegacyOf (given : Given) (space : Space) (r : Record) (out : List Range) : Type 0 where
  pub canonical : IsCanonical out
  pub exact : (a : ℕ) → Covers out a ↔ IsTrue (legacy_passes given space a r)

-- the addresses of I/O space that its palette part claims
pub record IsPaletteOf (given : Given) (r : Record) (out : List Range) : Type 0 where
  pub canonical : IsCanonical out
  pub exact : (a : ℕ) → Covers out a ↔ IsTrue (palette_claims_of given a r)

-- the claim of such a part on the bus of each function with the record, of those ranges
pub record IsClaimOfPart (given : Given) (part : FixedPart) (space : Space) (r : Record)
    (reach : List Range) (c : Claimed) : Type 0 where
  pub slot : c.slot ≡ r.slot
  pub register : c.register ≡ register_of_part part
  pub held : c.held ≡ false
  pub exact : (s : System) (f : Function) → IsSystem s → Contains s f
      → record_value r ≡ record_of f → ((a : ℕ) → Covers reach a → IsAddress space a)
      → IsClaimAmong given s f.slot.bus space reach c
