-- The lines of regions that have none at a place.
use Rattle.std.specs.Prelude.{◌≡◌, ◌⊎◌, ℕ, ◌<◌, ◌≤◌, List, ◌++◌, length, map, slice_index_or}
use Rattle.std.specs.List.{All, AllPairs, AllWithin, Contains, flat_map}
use Rattle.pci_spec.specs.Slot.{Slot, slot_number}
use Rattle.pci_spec.specs.System.{System, Space}
use Rattle.pci_spec.specs.Decoded.{HasRecords}
use Rattle.judge_spec.specs.Given.{Given}
use Rattle.judge_spec.specs.Told.{ToldRange}
use Rattle.judge_spec.specs.ToldClaims.{Told, told_register}
use Rattle.judge_spec.specs.ToldRegion.{ToldRegion}
use Rattle.judge_spec.specs.Regions.{MapRegion, Own, OfLine, slot_of, register_of, space_of, IsIn, region_rank}
use Rattle.judge_spec.specs.Lines.{IsOutOfPlace}
use Rattle.judge_spec.specs.Map.{IsOutsideWindows, IsOnlyLeft, AreRegionsBySlot}
use Rattle.judge_spec.specs.MapText.{map_region_line, outside_text, unreached_text}
use Rattle.pci_function.specs.declared.record.Record.{Record}
use Rattle.pci_function.specs.Values.{record_value}
use Rattle.pci_tree.specs.declared.region.Region as outline
use Rattle.pci_tree.specs.Regions.{IsLawful}
use Rattle.pci_tree.specs.Outline.{RiseBySlot}
use Rattle.pci_claims.specs.Found.{IsFoundIn, NoneClaims}
use Rattle.pci_map.specs.Values.{value_of}

-- a region of a list at a register
abbrev pub IsListedAt : List outline.Region → ℕ → outline.Region → Type 0
IsListedAt qs reg q = Contains qs q × (q.reg ≡ reg)

-- a list by which the region of a function and space at each register is found
pub record AreFoundBy (s : System) (slot : Slot) (space : Space)
    (qs : List outline.Region) : Type 0 where
  pub found : (reg : ℕ) (q : outline.Region) → IsListedAt qs reg q → IsFoundIn s slot reg space q
  pub none : (reg : ℕ) → ((q : outline.Region) → IsListedAt qs reg q → ⊥)
      → NoneClaims s slot reg space

-- the record of a function of a system
pub record IsRecordIn (s : System) (r : Record) : Type 0 where
  pub records : List Record
  pub are : HasRecords s (map record_value records)
  pub rising : RiseBySlot records
  pub lawful : All IsLawful records
  pub has : Contains records r

-- a region is out of place, or left
abbrev pub IsRegionAside : Told → Given → List ℕ → System → MapRegion → Type 0
IsRegionAside told given roots s q =
    IsOutOfPlace told given roots s q ⊎ IsOutsideWindows given roots s q

-- one of the regions of a space is
abbrev pub HasAside : Told → Given → List ℕ → System → Space → List outline.Region → Type 0
HasAside told given roots s space qs =
    (q : outline.Region) × Contains qs q × IsRegionAside told given roots s (Own (value_of space q))

-- none of them is
abbrev pub HasNoAside : Told → Given → List ℕ → System → Space → List outline.Region → Type 0
HasNoAside told given roots s space qs =
    (q : outline.Region) → Contains qs q → IsRegionAside told given roots s (Own (value_of space q))
    → ⊥

-- where a region is named
abbrev pub IsNamedAt : Slot → ℕ → Space → MapRegion → Type 0
IsNamedAt slot reg space q = (slot_of q ≡ slot) × (register_of q ≡ reg) × (space_of q ≡ space)

abbrev pub IsNamedAtRegister : Slot → ℕ → MapRegion → Type 0
IsNamedAtRegister slot reg q = (slot_of q ≡ slot) × (register_of q ≡ reg)

abbrev pub IsNamedBelow : Slot → ℕ → MapRegion → Type 0
IsNamedBelow slot reg q = (slot_of q ≡ slot) × (register_of q < reg)

-- it is one that registers of a slot show
abbrev pub IsOfRegisters : Slot → MapRegion → Type 0
IsOfRegisters slot q = (slot_of q ≡ slot) × (register_of q < 256)

-- it is one told range
abbrev pub IsTheRange : ToldRegion → MapRegion → Type 0
IsTheRange x q = q ≡ OfLine x

-- it is a told range of a part of their list
abbrev pub IsRangeFrom : ℕ → ℕ → MapRegion → Type 0
IsRangeFrom first end q =
    (told_register first ≤ register_of q) × (register_of q < told_register end)

-- it is one that registers of some slots show, or one of the first told ranges
abbrev pub IsAmongSlots : List Slot → ℕ → MapRegion → Type 0
IsAmongSlots slots end q =
    (Contains slots (slot_of q) × (register_of q < 256)) ⊎ IsRangeFrom 0 end q

-- the ranges before an index have lower slots than the functions from another index on
abbrev pub AreOfLowerSlots : List ToldRange → ℕ → List Record → ℕ → Type 0
AreOfLowerSlots ranges next rs from =
    (k : ℕ) (d : Record) → from ≤ k → k < length rs
    → AllWithin (λ r. slot_number r.slot < slot_number (slice_index_or rs k d).slot) ranges 0 next

-- those from an index on have no lower slots than some functions
abbrev pub AreOfNoLowerSlots : List ToldRange → ℕ → List Slot → Type 0
AreOfNoLowerSlots ranges next slots =
    (x : Slot) → Contains slots x
    → AllWithin (λ r. slot_number x ≤ slot_number r.slot) ranges next (length ranges)

-- a text got the lines of just those regions of which P and Q hold, by slot and register
pub record AreAsidesWritten (told : Told) (given : Given) (Q : MapRegion → Type 0) (s : System)
    (P : MapRegion → Type 0) (old new : List ℕ) : Type 0 where
  pub written : List MapRegion
  pub regions : (q : MapRegion) → Contains written q → IsIn told s q
  pub hold : (q : MapRegion) → Contains written q → Q q
  pub among : (q : MapRegion) → Contains written q → P q
  pub complete : (q : MapRegion) → IsIn told s q → Q q → P q → Contains written q
  pub rising : AllPairs (λ p q. region_rank p < region_rank q) written
  pub text : new ≡ old ++ flat_map (map_region_line given 1) written

-- the lines of those that are out of place, and of those that are only left
pub record AsideTexts : Type 0 where
  pub outside : List ℕ
  pub unreached : List ℕ

-- both texts got the lines of those of which P holds
pub record AreAsides (told : Told) (given : Given) (roots : List ℕ) (s : System)
    (P : MapRegion → Type 0) (old new : AsideTexts) : Type 0 where
  pub out : AreAsidesWritten told given (IsOutOfPlace told given roots s) s P old.outside new.outside
  pub left : AreAsidesWritten told given (IsOnlyLeft told given roots s) s P old.unreached new.unreached

-- a text got the lines of all of both, each below their heading
pub record AreAsidesTold (told : Told) (given : Given) (roots : List ℕ) (s : System)
    (old new : List ℕ) : Type 0 where
  pub outside : List MapRegion
  pub are_outside : AreRegionsBySlot (IsOutOfPlace told given roots s) told s outside
  pub unreached : List MapRegion
  pub are_left : AreRegionsBySlot (IsOnlyLeft told given roots s) told s unreached
  pub text : new ≡ old ++ (outside_text given outside ++ unreached_text given unreached)
