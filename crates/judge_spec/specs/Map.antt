-- The map of a system, with what is given and told: the lines of each root bus with those of what bridges take, the regions
-- that are out of place, and those that are left.
use Rattle.std.specs.Prelude.{◌≡◌, ◌⊎◌, ℕ, ◌<◌, List, [], ◌∷◌, ◌++◌, map}
use Rattle.std.specs.List.{AllPairs, Contains, filter, flat_map, range_with_len}
use Rattle.pci_spec.specs.Slot.{Slot, slot_number}
use Rattle.pci_spec.specs.System.{System, Function, Space, Io, Memory, Leads}
use Rattle.pci_spec.specs.Bus.{is_root}
use Rattle.pci_spec.specs.Why.{Region, IsRegionIn}
use Rattle.judge_spec.specs.Given.{Given}
use Rattle.judge_spec.specs.ToldClaims.{Told}
use Rattle.judge_spec.specs.Regions.{MapRegion, Own, slot_of, space_of, IsIn, region_rank}
use Rattle.judge_spec.specs.Lines.{BelongsUnder, StandsBehind, IsOutOfPlace, OnRoot, TakenBy, Lines, End, all_regions, AreLinesOfPlace}

-- a bridge that takes what nobody claims, with the lines of what it takes of a space
pub record MapTaking : Type 0 where
  pub slot : Slot
  pub lines : Lines

-- the lines of a space on a root bus, and those of the bridges on it or below that take what nobody claims
pub record MapSpace : Type 0 where
  pub lines : Lines
  pub taken : List MapTaking

-- a root bus, with its two spaces
pub record MapRoot : Type 0 where
  pub bus : ℕ
  pub io : MapSpace
  pub memory : MapSpace

pub record Map : Type 0 where
  pub roots : List MapRoot
  pub outside : List MapRegion
  pub unreached : List MapRegion

-- bridges lead from a bus to that of a slot
pub record IsBelow (s : System) (bus : ℕ) (slot : Slot) : Type 0 where
  pub bridges : List Function
  pub leads : Leads s bus bridges slot.bus

-- a bridge on a root bus or below takes the region's first address, and none of its windows claims it
pub record HasTaker (given : Given) (roots : List ℕ) (s : System) (q : MapRegion) : Type 0 where
  pub root : ℕ
  pub slot : Slot
  pub is_root : Contains roots root
  pub below : IsBelow s root slot
  pub stands : StandsBehind given s slot q

-- A region has a place on a root bus, or below: windows lead to it, each belonging under the next one of the list, and the
-- last standing on a root bus, or in what a bridge takes.
abbrev pub HasWay : Given → List ℕ → System → MapRegion → List Region → Type 0
HasWay given roots s q [] = Contains roots (slot_of q).bus ⊎ HasTaker given roots s q
HasWay given roots s q (w ∷ windows) =
    IsRegionIn s w × BelongsUnder given s w q × HasWay given roots s (Own w) windows

-- no window claims its first address and no bridge takes it, or it belongs under a window that is itself left
abbrev pub IsOutsideWindows : Given → List ℕ → System → MapRegion → Type 0
IsOutsideWindows given roots s q = (windows : List Region) → HasWay given roots s q windows → ⊥

-- the root buses, rising
abbrev pub root_buses : List ℕ → List ℕ
root_buses roots = filter (is_root roots) (range_with_len 0 256)

-- a bridge on a root bus or below, and the lines of what it takes, of which there are some
pub record IsTaking (told : Told) (given : Given) (roots : List ℕ) (s : System) (space : Space)
    (root : ℕ) (t : MapTaking) : Type 0 where
  pub below : IsBelow s root t.slot
  pub some : t.lines ≡ End → ⊥
  pub lines : AreLinesOfPlace told given roots s space (TakenBy t.slot) t.lines

-- just the bridges on a root bus or below that take the first address of a region in its place, by slot
pub record AreTakings (told : Told) (given : Given) (roots : List ℕ) (s : System) (space : Space)
    (root : ℕ) (ts : List MapTaking) : Type 0 where
  pub each : (t : MapTaking) → Contains ts t → IsTaking told given roots s space root t
  pub complete : (slot : Slot) (q : MapRegion) → IsBelow s root slot → IsIn told s q
      → space_of q ≡ space → StandsBehind given s slot q
      → (IsOutOfPlace told given roots s q → ⊥) → (t : MapTaking) × Contains ts t × (t.slot ≡ slot)
  pub rising : AllPairs (λ t u. slot_number t.slot < slot_number u.slot) ts

pub record IsSpaceOfMap (told : Told) (given : Given) (roots : List ℕ) (s : System) (space : Space)
    (root : ℕ) (x : MapSpace) : Type 0 where
  pub lines : AreLinesOfPlace told given roots s space (OnRoot root) x.lines
  pub taken : AreTakings told given roots s space root x.taken

pub record IsRootOfMap (told : Told) (given : Given) (roots : List ℕ) (s : System)
    (root : MapRoot) : Type 0 where
  pub io : IsSpaceOfMap told given roots s Io root.bus root.io
  pub memory : IsSpaceOfMap told given roots s Memory root.bus root.memory

-- a region that is left, and isn't out of place
pub record IsOnlyLeft (told : Told) (given : Given) (roots : List ℕ) (s : System)
    (q : MapRegion) : Type 0 where
  pub left : IsOutsideWindows given roots s q
  pub within : IsOutOfPlace told given roots s q → ⊥

-- just the regions of which P holds, by slot and register
pub record AreRegionsBySlot (P : MapRegion → Type 0) (told : Told) (s : System)
    (qs : List MapRegion) : Type 0 where
  pub regions : (q : MapRegion) → Contains qs q → IsIn told s q
  pub hold : (q : MapRegion) → Contains qs q → P q
  pub complete : (q : MapRegion) → IsIn told s q → P q → Contains qs q
  pub rising : AllPairs (λ p q. region_rank p < region_rank q) qs

pub record IsMap (told : Told) (given : Given) (roots : List ℕ) (s : System) (m : Map) : Type 0 where
  pub buses : map (λ root. root.bus) m.roots ≡ root_buses roots
  pub each : (root : MapRoot) → Contains m.roots root → IsRootOfMap told given roots s root
  pub outside : AreRegionsBySlot (IsOutOfPlace told given roots s) told s m.outside
  pub left : AreRegionsBySlot (IsOnlyLeft told given roots s) told s m.unreached

-- the regions that have a line in what a bridge takes
abbrev pub taken_regions : MapTaking → List MapRegion
taken_regions t = all_regions t.lines

-- those that have one on a root bus or below, of a space
abbrev pub regions_of : MapSpace → List MapRegion
regions_of x = all_regions x.lines ++ flat_map taken_regions x.taken

abbrev pub regions_on : MapRoot → List MapRegion
regions_on root = regions_of root.io ++ regions_of root.memory

abbrev pub regions_in : Map → List MapRegion
regions_in m = flat_map regions_on m.roots ++ (m.outside ++ m.unreached)
