-- Laws of maps.
use Rattle.std.specs.Prelude.{◌≡◌, ℕ, ◌↔◌, IsTrue, IsFalse, List, [], codes}
use Rattle.std.specs.List.{Any, Contains, flat_map}
use Rattle.pci_spec.specs.Slot.{Slot}
use Rattle.pci_spec.specs.System.{System, Space, IsSystem, is_window}
use Rattle.pci_spec.specs.Decoded.{InRange}
use Rattle.pci_spec.specs.Why.{Region, IsRegionIn}
use Rattle.judge_spec.specs.Given.{Given, nothing_given}
use Rattle.judge_spec.specs.Told.{IsTold}
use Rattle.judge_spec.specs.ToldClaims.{Told, nothing_told, is_marked_held}
use Rattle.judge_spec.specs.ToldRegion.{ToldRegion}
use Rattle.judge_spec.specs.Unclaimed.{IsUnclaimedOn, AreTaking}
use Rattle.judge_spec.specs.Regions.{MapRegion, Own, OfLine, range_of, IsIn}
use Rattle.judge_spec.specs.Lines.{OnRoot, Inside, TakenBy, Lines, runs_at, regions_at, AreLinesAt, IsFreeIn, IsFreeOn, IsOutOfPlace}
use Rattle.judge_spec.specs.Map.{MapRoot, Map, IsOutsideWindows, IsOnlyLeft, IsMap, regions_on, regions_in}
use Rattle.judge_spec.specs.MapText.{under_heading, map_off_bars_of, map_off_text}

-- A line of a region is one of an enabled region that claims an address.
abbrev pub LinesAreOfRegions : Type 0
LinesAreOfRegions =
    (told : Told) (given : Given) (roots : List ℕ) (s : System) (m : Map) (q : MapRegion)
    → IsMap told given roots s m → Contains (regions_in m) q → IsIn told s q

-- No enabled region that claims an address is without a line.
abbrev pub NoRegionIsMissed : Type 0
NoRegionIsMissed =
    (told : Told) (given : Given) (roots : List ℕ) (s : System) (m : Map) (q : MapRegion)
    → IsSystem s → IsTold told.ranges → IsMap told given roots s m → IsIn told s q
    → (Contains (regions_in m) q → ⊥) → ⊥

-- A region that has a line under `outside` has none on or below a root bus, and none under `unreached`.
abbrev pub OutsideStandsAlone : Type 0
OutsideStandsAlone =
    (told : Told) (given : Given) (roots : List ℕ) (s : System) (m : Map) (q : MapRegion)
    → IsMap told given roots s m → Contains m.outside q
    → (Contains (flat_map regions_on m.roots) q → ⊥) × (Contains m.unreached q → ⊥)

-- No window is out of place,
abbrev pub WindowsAreInPlace : Type 0
WindowsAreInPlace =
    (told : Told) (given : Given) (roots : List ℕ) (s : System) (q : Region) → IsSystem s
    → IsRegionIn s q → IsTrue (is_window q.part) → IsOutOfPlace told given roots s (Own q) → ⊥

-- and no held range has a line under `outside`.
abbrev pub HeldAreInPlace : Type 0
HeldAreInPlace =
    (told : Told) (given : Given) (roots : List ℕ) (s : System) (m : Map) (x : ToldRegion)
    → IsMap told given roots s m → Contains m.outside (OfLine x)
    → IsFalse (is_marked_held x.told.mark)

-- The first address of a region that stands under a window is one of the window's.
abbrev pub WindowsHoldWhatIsInside : Type 0
WindowsHoldWhatIsInside =
    (told : Told) (given : Given) (roots : List ℕ) (s : System) (space : Space) (w : Region)
    (q : MapRegion) (lines : Lines) → IsSystem s → IsTold told.ranges → IsRegionIn s w
    → AreLinesAt told given roots s space (Inside w) lines → Contains (regions_at lines) q
    → InRange w.range (range_of q).first

-- An address has a line `free` under a window exactly where the window claims it and no enabled region of the bridge's
-- secondary bus does.
abbrev pub FreeLinesAreExact : Type 0
FreeLinesAreExact =
    (told : Told) (given : Given) (roots : List ℕ) (s : System) (space : Space) (w : Region)
    (lines : Lines) (a : ℕ) → AreLinesAt told given roots s space (Inside w) lines
    → (Any (λ r. InRange r a) (runs_at lines) ↔ IsFreeIn told given s w a)

-- An address has a line `free` on a root bus exactly where a list is said of its space, the host sends it there by that,
-- and no enabled region of the bus claims it.
abbrev pub FreeOnRootsIsExact : Type 0
FreeOnRootsIsExact =
    (told : Told) (given : Given) (roots : List ℕ) (s : System) (space : Space) (bus : ℕ)
    (lines : Lines) (a : ℕ) → AreLinesAt told given roots s space (OnRoot bus) lines
    → (Any (λ r. InRange r a) (runs_at lines) ↔ IsFreeOn told given s bus space a)

-- A region in what a bridge takes is one whose first address no region of the bridge's own bus claims.
abbrev pub TakenIsUnclaimed : Type 0
TakenIsUnclaimed =
    (told : Told) (given : Given) (roots : List ℕ) (s : System) (space : Space) (slots : List Slot)
    (slot : Slot) (q : MapRegion) (lines : Lines) → AreTaking told given s slots given.unclaimed
    → AreLinesAt told given roots s space (TakenBy slot) lines → Contains (regions_at lines) q
    → IsUnclaimedOn told given s slot.bus space (range_of q).first

-- ---- with nothing given

-- Nothing is out of place, so each region has its line at its place, or is left.
abbrev pub NothingIsOutOfPlace : Type 0
NothingIsOutOfPlace =
    (told : Told) (roots : List ℕ) (s : System) (q : MapRegion)
    → IsOutOfPlace told nothing_given roots s q → ⊥

abbrev pub NothingIsOutside : Type 0
NothingIsOutside =
    (told : Told) (roots : List ℕ) (s : System) (m : Map) → IsMap told nothing_given roots s m
    → m.outside ≡ []

abbrev pub AllLeftAreUnreached : Type 0
AllLeftAreUnreached =
    (told : Told) (roots : List ℕ) (s : System) (q : MapRegion)
    → IsOnlyLeft told nothing_given roots s q ↔ IsOutsideWindows nothing_given roots s q

-- A root bus has no line `free`.
abbrev pub NothingIsFreeOnRoots : Type 0
NothingIsFreeOnRoots =
    (told : Told) (roots : List ℕ) (s : System) (space : Space) (bus : ℕ) (lines : Lines)
    → AreLinesAt told nothing_given roots s space (OnRoot bus) lines → runs_at lines ≡ []

-- Where no bridge takes anything no line is of that.
abbrev pub NothingIsTaken : Type 0
NothingIsTaken =
    (told : Told) (given : Given) (roots : List ℕ) (s : System) (m : Map) (root : MapRoot)
    → given.unclaimed ≡ [] → IsMap told given roots s m → Contains m.roots root
    → (root.io.taken ≡ []) × (root.memory.taken ≡ [])

-- ---- with nothing told

-- Each line is of a BAR, a ROM or a window,
abbrev pub NoLineIsTold : Type 0
NoLineIsTold =
    (asleep : List Slot) (given : Given) (roots : List ℕ) (s : System) (m : Map) (x : ToldRegion)
    → IsMap (nothing_told asleep) given roots s m → Contains (regions_in m) (OfLine x) → ⊥

-- and BARs alone are off.
abbrev pub BarsAloneAreOff : Type 0
BarsAloneAreOff =
    (asleep : List Slot) (s : System)
    → map_off_text (nothing_told asleep) s ≡ under_heading (codes "off") (flat_map map_off_bars_of s)
