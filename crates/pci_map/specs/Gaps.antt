-- What some regions claim.
use Rattle.std.specs.Prelude.{ℕ, ◌≤◌, ◌↔◌, IsFalse, Bool, false, List}
use Rattle.std.specs.List.{All, AllPairs, Contains}
use Rattle.pci_spec.specs.System.{System, Space}
use Rattle.judge_spec.specs.Given.{Given}
use Rattle.judge_spec.specs.ToldClaims.{Told}
use Rattle.judge_spec.specs.Lines.{IsClaimedOn}
use Rattle.pci_base.specs.declared.range.Range.{Range}
use Rattle.pci_tree.specs.declared.region.Region.{Region}
use Rattle.pci_tree.specs.Ranges.{Covers, IsCanonical}
use Rattle.pci_claims.specs.Claim.{is_cut_from}
use Rattle.pci_claims.specs.Isa.{is_cut_region}
use Rattle.pci_map.specs.declared.seat.Seat.{Seat}
use Rattle.pci_map.specs.declared.seat.Seat.TheVariants as seats

-- a region has an address, and ISA Enable doesn't take it from it
pub record IsKeptIn (given : Given) (space : Space) (q : Region) (a : ℕ) : Type 0 where
  pub held : (q.first ≤ a) × (a ≤ q.last)
  pub kept : IsFalse (is_cut_from given space q a)

-- a told range has its addresses
abbrev pub IsClaimedBy : Given → Space → Seat → ℕ → Type 0
IsClaimedBy given space (seats.Own q) a = IsKeptIn given space q a
IsClaimedBy given space (seats.OfLine x) a = (x.told.now.first ≤ a) × (a ≤ x.told.now.last)

-- whether ISA Enable takes addresses of a space from a region of a bus
abbrev pub is_cut_seat : Given → Space → Seat → Bool
is_cut_seat given space (seats.Own q) = is_cut_region given space q
is_cut_seat given space (seats.OfLine x) = false

-- just what some regions claim of a space
pub record AreClaimedBy (given : Given) (space : Space) (qs : List Seat)
    (out : List Range) : Type 0 where
  pub some : All (λ r. r.first ≤ r.last) out
  pub exact : (a : ℕ) → Covers out a ↔ ((q : Seat) × Contains qs q × IsClaimedBy given space q a)

-- the same of one of them
pub record AreClaimsOf (given : Given) (space : Space) (q : Seat) (out : List Range) : Type 0 where
  pub some : All (λ r. r.first ≤ r.last) out
  pub exact : (a : ℕ) → Covers out a ↔ IsClaimedBy given space q a

-- just what the regions of a bus claim of a space, by first address
pub record AreClaimed (told : Told) (given : Given) (s : System) (bus : ℕ) (space : Space)
    (out : List Range) : Type 0 where
  pub some : All (λ r. r.first ≤ r.last) out
  pub sorted : AllPairs (λ r t. r.first ≤ t.first) out
  pub exact : (a : ℕ) → Covers out a ↔ IsClaimedOn told given s bus space a

-- just what a window claims and no region of a bus does, by ranges that rise with a gap between two
pub record AreFreeInside (told : Told) (given : Given) (s : System) (bus : ℕ) (space : Space)
    (w : Region) (out : List Range) : Type 0 where
  pub canonical : IsCanonical out
  pub exact : (a : ℕ) → Covers out a
      ↔ (IsKeptIn given space w a × (IsClaimedOn told given s bus space a → ⊥))
