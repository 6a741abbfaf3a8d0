-- The lines of a map: which regions stand in which place, and what of a place is free (Bridge 1.2, chapter 4).
use Rattle.std.specs.Prelude.{◌≡◌, ◌⊎◌, ℕ, ◌<◌, Bool, false, ◌&&◌, not, IsTrue, IsFalse, List, [], ◌∷◌, ◌++◌}
use Rattle.std.specs.Option.{is_some}
use Rattle.std.specs.List.{AllPairs, Contains}
use Rattle.pci_spec.specs.Slot.{Slot}
use Rattle.pci_spec.specs.Window.{WindowKind, IoWindow, MemoryWindow, PrefetchWindow}
use Rattle.pci_spec.specs.System.{System, Function, Space, Io, Memory, Part, Bar, Rom, Window, IsAddress, is_bridge, window_claims}
use Rattle.pci_spec.specs.Bus.{secondary}
use Rattle.pci_spec.specs.Decoded.{Range, InRange}
use Rattle.pci_spec.specs.Why.{Region, AreRuns}
use Rattle.pci_spec.specs.Fault.{RegionName, address_in, named_region}
use Rattle.judge_spec.specs.Given.{Given, ranges_said, starts, takes, is_cut}
use Rattle.judge_spec.specs.Claims.{OwnClaims, is_cut_of}
use Rattle.judge_spec.specs.ToldClaims.{Told, RangeClaimsOnBus}
use Rattle.judge_spec.specs.ToldFault.{IsOutside}
use Rattle.judge_spec.specs.Regions.{MapRegion, Own, OfLine, slot_of, register_of, space_of, range_of, IsIn, region_rank}

-- ---- places

-- whether a window of a bridge is the first one, by register, that claims an address of a space
abbrev pub is_first_window : Given → Space → WindowKind → ℕ → Function → Bool
is_first_window given Io IoWindow a b = window_claims b IoWindow a && not (is_cut given Io a b.slot)
is_first_window given Io MemoryWindow a b = false
is_first_window given Io PrefetchWindow a b = false
is_first_window given Memory IoWindow a b = false
is_first_window given Memory MemoryWindow a b = window_claims b MemoryWindow a
is_first_window given Memory PrefetchWindow a b =
    window_claims b PrefetchWindow a && not (window_claims b MemoryWindow a)

-- A region belongs under a window: this is of a bridge to the region's bus, and of that bridge's windows the first that
-- claims the region's first address.
pub record BelongsUnder (given : Given) (s : System) (w : Region) (q : MapRegion) : Type 0 where
  pub b : Function
  pub listed : Contains s b
  pub bridge : IsTrue (is_bridge b)
  pub slot : b.slot ≡ w.slot
  pub leads : secondary b ≡ (slot_of q).bus
  pub kind : WindowKind
  pub window : w.part ≡ Window kind
  pub first : IsTrue (is_first_window given (space_of q) kind (range_of q).first b)

-- A region stands behind the bridge at a slot without a window: this is a bridge to the region's bus, it takes the region's
-- first address as nobody on its own bus claims it, and none of its windows claims that address.
pub record StandsBehind (given : Given) (s : System) (slot : Slot) (q : MapRegion) : Type 0 where
  pub b : Function
  pub listed : Contains s b
  pub bridge : IsTrue (is_bridge b)
  pub at : b.slot ≡ slot
  pub leads : secondary b ≡ (slot_of q).bus
  pub taken : IsTrue (takes given (space_of q) (range_of q).first b)
  pub no_window : (kind : WindowKind)
      → IsFalse (is_first_window given (space_of q) kind (range_of q).first b)

-- where regions stand: on a root bus, inside a window, or in what a bridge takes
pub data MapPlace : Type 0 where
  OnRoot : ℕ → MapPlace
  Inside : Region → MapPlace
  TakenBy : Slot → MapPlace

abbrev pub StandsInPlace : Given → System → MapPlace → MapRegion → Type 0
StandsInPlace given s (OnRoot bus) q = (slot_of q).bus ≡ bus
StandsInPlace given s (Inside w) q = BelongsUnder given s w q
StandsInPlace given s (TakenBy slot) q = StandsBehind given s slot q

-- A BAR, a ROM or a told range that isn't held has an address to which no access of the host starts on the root above it:
-- its line is at no place.
pub record IsOutOfPlace (told : Told) (given : Given) (roots : List ℕ) (s : System)
    (q : MapRegion) : Type 0 where
  pub address : ℕ
  pub outside : IsOutside told given roots s (named_region (slot_of q) (register_of q))
      (address_in (space_of q) address)

-- an enabled BAR, ROM or window of a bus claims an address
pub record IsClaimedByPart (given : Given) (s : System) (bus : ℕ) (space : Space)
    (a : ℕ) : Type 0 where
  pub f : Function
  pub part : Part
  pub listed : Contains s f
  pub on_bus : f.slot.bus ≡ bus
  pub claims : OwnClaims given f part space a

-- one of those does, or a told range of the bus that is on
abbrev pub IsClaimedOn : Told → Given → System → ℕ → Space → ℕ → Type 0
IsClaimedOn told given s bus space a =
    IsClaimedByPart given s bus space a
    ⊎ ((region : RegionName) × RangeClaimsOnBus told s bus (address_in space a) region)

-- an address that a window claims, and no enabled region of its bridge's secondary bus
pub record IsFreeIn (told : Told) (given : Given) (s : System) (w : Region) (a : ℕ) : Type 0 where
  pub held : InRange w.range a
  pub kept : IsFalse (is_cut_of given w.part w.space a w.slot)
  pub unclaimed : (b : Function) → Contains s b → b.slot ≡ w.slot
      → IsClaimedOn told given s (secondary b) w.space a → ⊥

-- an address that the host sends to a root bus, by the list that is said of its space, and that no enabled region of the
-- bus claims
pub record IsFreeOn (told : Told) (given : Given) (s : System) (bus : ℕ) (space : Space)
    (a : ℕ) : Type 0 where
  pub said : IsTrue (is_some (ranges_said given space))
  pub address : IsAddress space a
  pub sent : IsTrue (starts given space bus a)
  pub unclaimed : IsClaimedOn told given s bus space a → ⊥

-- what of a place is free: nothing of what a bridge takes
abbrev pub IsFreeInPlace : Told → Given → System → Space → MapPlace → ℕ → Type 0
IsFreeInPlace told given s space (OnRoot bus) a = IsFreeOn told given s bus space a
IsFreeInPlace told given s space (Inside w) a = IsFreeIn told given s w a
IsFreeInPlace told given s space (TakenBy slot) a = ⊥

-- ---- lines

-- the lines of a place
pub data Lines : Type 0 where
  End : Lines
  -- a free run of addresses, and the lines that follow
  Free : Range → Lines → Lines
  -- a region, the lines inside it, and those that follow
  Sits : MapRegion → Lines → Lines → Lines

-- the regions that stand in the place itself
abbrev pub regions_at : Lines → List MapRegion
regions_at End = []
regions_at (Free r rest) = regions_at rest
regions_at (Sits q inside rest) = q ∷ regions_at rest

-- the free runs of the place itself
abbrev pub runs_at : Lines → List Range
runs_at End = []
runs_at (Free r rest) = r ∷ runs_at rest
runs_at (Sits q inside rest) = runs_at rest

-- all regions that have a line
abbrev pub all_regions : Lines → List MapRegion
all_regions End = []
all_regions (Free r rest) = all_regions rest
all_regions (Sits q inside rest) = q ∷ (all_regions inside ++ all_regions rest)

-- by what the lines of a place are ordered: a first address, then slot and register
pub record Mark : Type 0 where
  pub first : ℕ
  pub number : ℕ

abbrev pub region_mark : MapRegion → Mark
region_mark q = record { first = (range_of q).first; number = region_rank q }

-- no region begins where a run does
abbrev pub run_mark : Range → Mark
run_mark r = record { first = r.first; number = 0 }

abbrev pub marks : Lines → List Mark
marks End = []
marks (Free r rest) = run_mark r ∷ marks rest
marks (Sits q inside rest) = region_mark q ∷ marks rest

abbrev pub MarkIsBefore : Mark → Mark → Type 0
MarkIsBefore m n = (m.first < n.first) ⊎ ((m.first ≡ n.first) × (m.number < n.number))

-- just the regions of a space that stand in a place and the greatest runs of what is free there, in order
pub record AreLinesAt (told : Told) (given : Given) (roots : List ℕ) (s : System) (space : Space)
    (place : MapPlace) (lines : Lines) : Type 0 where
  pub regions : (q : MapRegion) → Contains (regions_at lines) q → IsIn told s q
  pub of_space : (q : MapRegion) → Contains (regions_at lines) q → space_of q ≡ space
  pub stand : (q : MapRegion) → Contains (regions_at lines) q → StandsInPlace given s place q
  pub within : (q : MapRegion) → Contains (regions_at lines) q
      → IsOutOfPlace told given roots s q → ⊥
  pub complete : (q : MapRegion) → IsIn told s q → space_of q ≡ space
      → StandsInPlace given s place q → (IsOutOfPlace told given roots s q → ⊥)
      → Contains (regions_at lines) q
  pub free : AreRuns (IsFreeInPlace told given s space place) (runs_at lines)
  pub rising : AllPairs MarkIsBefore (marks lines)

-- what is inside a part: of a window lines of which P holds, of others nothing
abbrev pub AreInPart : Part → Lines → Type 0 → Type 0
AreInPart (Bar n) lines P = lines ≡ End
AreInPart Rom lines P = lines ≡ End
AreInPart (Window kind) lines P = P

-- what is inside a region: of a told range nothing
abbrev pub AreInside : Told → Given → List ℕ → System → Space → MapRegion → Lines → Type 0
AreInside told given roots s space (Own q) lines =
    AreInPart q.part lines (AreLinesAt told given roots s space (Inside q) lines)
AreInside told given roots s space (OfLine x) lines = lines ≡ End

-- inside each region of some lines, all the way down
abbrev pub AreAllInside : Told → Given → List ℕ → System → Space → Lines → Type 0
AreAllInside told given roots s space End = Unit {0}
AreAllInside told given roots s space (Free r rest) = AreAllInside told given roots s space rest
AreAllInside told given roots s space (Sits q inside rest) =
    AreInside told given roots s space q inside
    × AreAllInside told given roots s space inside × AreAllInside told given roots s space rest

-- the lines of a place, with all that is inside
abbrev pub AreLinesOfPlace : Told → Given → List ℕ → System → Space → MapPlace → Lines → Type 0
AreLinesOfPlace told given roots s space place lines =
    AreLinesAt told given roots s space place lines × AreAllInside told given roots s space lines
