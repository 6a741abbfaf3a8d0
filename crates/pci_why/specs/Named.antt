-- The region that a slot and a register name, in a space.
use Rattle.std.specs.Prelude.{◌≡◌, ℕ, ◌≤◌, ◌↔◌, Bool, false, List, ◌∷◌}
use Rattle.pci_spec.specs.Slot.{Slot}
use Rattle.pci_spec.specs.System.{System, Space}
use Rattle.pci_spec.specs.Fault.{RegionName, address_in, named_region}
use Rattle.pci_base.specs.declared.range.Range.{Range}
use Rattle.pci_tree.specs.Ranges.{Covers}
use Rattle.pci_tree.specs.Outline.{Tree}
use Rattle.pci_tree.specs.Trees.{HasTree}
use Rattle.pci_why.specs.RegionLines.{given_line_of}
use Rattle.judge_spec.specs.Given.{Given}
use Rattle.judge_spec.specs.Told.{IsToldRange}
use Rattle.judge_spec.specs.ToldClaims.{Told, ClaimsOnBus}
use Rattle.judge_spec.specs.ToldRegion.{told_words}
use Rattle.judge_spec.specs.Why.{AnyRegion, Holds, IsRegionIn, IsNamed, is_prefetchable, region_line}
use Rattle.pci_spec.specs.Listing.{inner_line}
use Rattle.pci_why.specs.Lines.{legacy_line, palette_line}
use Rattle.pci_why.specs.declared.named.Shown.{Shown}
use Rattle.pci_why.specs.declared.named.Shown.TheVariants.{Own, Legacy, Palette, OfLine}

-- the line of a region
abbrev pub shown_line : Given → List ℕ → Space → Shown → List ℕ
shown_line given word space (Own q) = given_line_of given word space q
shown_line given word space (Legacy slot is_narrow) = legacy_line word slot is_narrow space
shown_line given word space (Palette slot is_narrow) = palette_line word slot is_narrow
shown_line given word space (OfLine register range) =
    inner_line (word ∷ told_words record { register = register; told = range.now })

abbrev pub is_shown_prefetchable : Shown → Bool
is_shown_prefetchable (Own q) = q.prefetch
is_shown_prefetchable (Legacy slot is_narrow) = false
is_shown_prefetchable (Palette slot is_narrow) = false
is_shown_prefetchable (OfLine register range) = range.now.prefetchable

-- its line can be told: its addresses are some, and a told range is as a text tells it
abbrev pub HasOwnAddress : Shown → Type 0
HasOwnAddress (Own q) = q.first ≤ q.last
HasOwnAddress (Legacy slot is_narrow) = Unit {0}
HasOwnAddress (Palette slot is_narrow) = Unit {0}
HasOwnAddress (OfLine register range) = IsToldRange range.now

-- it is that of a system, with just the addresses that this claims
pub record IsNamedIn (told : Told) (given : Given) (s : System) (name : RegionName) (space : Space)
    (one : Shown) (addresses : List Range) : Type 0 where
  pub region : AnyRegion
  pub is : IsRegionIn told given s region
  pub named : IsNamed region name.slot name.register space
  pub prefetchable : is_prefetchable region ≡ is_shown_prefetchable one
  pub line : (word : List ℕ) → shown_line given word space one
      ≡ region_line given word region
  pub exact : (a : ℕ) → Covers addresses a ↔ Holds given region a
  -- no other region that they name claims an address
  pub all : (a bus : ℕ) → ClaimsOnBus told given s bus (address_in space a) name → Covers addresses a

-- of each system with the tree in which the region that they name claims some address
abbrev pub IsNamedInEach : Told → Given → Tree → RegionName → Space → Shown → List Range → Type 0
IsNamedInEach told given t name space one addresses =
    (s : System) (a bus : ℕ) → HasTree t s → ClaimsOnBus told given s bus (address_in space a) name
    → IsNamedIn told given s name space one addresses

-- no region of such a system that they name claims an address
abbrev pub NoneNamed : Told → Given → Tree → Slot → ℕ → Space → Type 0
NoneNamed told given t slot reg space =
    (s : System) (a bus : ℕ) → HasTree t s
    → ClaimsOnBus told given s bus (address_in space a) (named_region slot reg) → ⊥
