-- Laws of planning: cuts of sound systems, sizes placed largest first, what moving keeps, and systems in which everything has its place.
use Rattle.std.specs.Prelude.{◌≡◌, ◌⊎◌, ℕ, ◌+◌, ◌%◌, ◌^◌, ◌<◌, ◌≤◌, ◌↔◌, IsTrue, IsFalse, List, length, map, slice_index}
use Rattle.std.specs.List.{All, AllZip, Contains, count_by, sum}
use Rattle.std.specs.List.Sorted.{IsStrictlyIncreasing}
use Rattle.pci_spec.specs.Slot.{same_slot}
use Rattle.pci_spec.specs.Header.{layout, bar_count}
use Rattle.pci_spec.specs.Bar.{bar_at}
use Rattle.pci_spec.specs.Rom.{rom_at}
use Rattle.pci_spec.specs.Window.{WindowKind, page_size, has_window, is_closed}
use Rattle.pci_spec.specs.System.{System, Function, Part, Decodes, IsSystem, has_part, is_bridge}
use Rattle.pci_spec.specs.Bus.{IsNested}
use Rattle.pci_spec.specs.Sound.{HasChains, IsHome, IsInProfile, IsSingle, IsSound}
use Rattle.pci_spec.specs.Decoded.{IsDecodable}
use Rattle.plan_spec.specs.Plan.{Pools, IsMoved, window_size, are_bad}
use Rattle.plan_spec.specs.PlanPromise.{with_rom_on}
use Rattle.plan_spec.specs.Planning.Laws.{AreChanges}
use Rattle.plan_spec.specs.Planning.Layout.{IsLaidOut, IsSwitchedOn}
use Rattle.plan_spec.specs.Planning.Numbers.{place_at, IsPlannedFunction}
use Rattle.plan_spec.specs.Planning.Placing.{IsFalling, IsLeastPower, IsPlacedFrom, starts}
use Rattle.plan_spec.specs.Planning.Plannable.{IsPlannable}
use Rattle.plan_spec.specs.Planning.PlanWrites.{Change, plan_writes, most_writes}
use Rattle.plan_spec.specs.Planning.Promise.{IsFinal}
use Rattle.plan_spec.specs.Planning.Safety.{IsCutAt}
use Rattle.plan_spec.specs.Planning.Stops.{IsOffFrom}
use Rattle.plan_spec.specs.Planning.Table.{IsTable}

-- ---- cuts

-- What is left of a sound system when every function from a slot on is switched off is sound, whatever the addresses of these are moved to.
abbrev pub CutIsSound : Type 0
CutIsSound =
    (roots : List ℕ) (n : ℕ) (part whole : System) → IsSystem whole → IsSound roots whole
    → AllZip IsMoved whole part → IsCutAt n part whole → IsSound roots part

-- Where everything is off, no region can clash or be out of reach.
abbrev pub OffIsSound : Type 0
OffIsSound =
    (roots : List ℕ) (s : System) → IsOffFrom 0 s → IsNested roots s → IsInProfile roots s
    → HasChains s → IsSound roots s

-- ---- functions without regions

-- No part of it answers an address, whatever Command enables.
abbrev pub HoldsNothing : Function → Type 0
HoldsNothing f = (part : Part) (a : ℕ) → IsTrue (has_part f part) → Decodes f part a → ⊥

-- by its registers and what they read back it has no BAR and no ROM, and as a bridge no open window
pub record HasNoRegion (f : Function) : Type 0 where
  pub bars : (n : ℕ) → n < bar_count (layout f.image) → bar_at f.probe n ≡ 0
  pub rom : rom_at f.image f.probe ≡ 0
  pub windows : (kind : WindowKind) → IsTrue (is_bridge f)
      → IsFalse (has_window kind f.probe) ⊎ IsTrue (is_closed kind f.image)

-- Such a function holds nothing.
abbrev pub NoRegionHoldsNothing : Type 0
NoRegionHoldsNothing = (f : Function) → HasNoRegion f → HoldsNothing f

-- one function, unless there is nothing for Command to enable
abbrev pub IsSameOrIdle : Function → Function → Type 0
IsSameOrIdle f g = (f ≡ g) ⊎ (HoldsNothing f × HoldsNothing g)

-- Whether regions are single and home doesn't hang on functions that hold nothing.
abbrev pub IdleClaimNothing : Type 0
IdleClaimNothing =
    (roots : List ℕ) (s t : System) → AllZip IsSameOrIdle s t
    → (IsSingle roots s ↔ IsSingle roots t) × (IsHome roots s ↔ IsHome roots t)

-- So a sound system stays sound whatever the Command bits 0 and 1 of such functions are.
abbrev pub IdleCommandIsFree : Type 0
IdleCommandIsFree =
    (roots : List ℕ) (s t : System) → IsSystem s → AllZip IsMoved s t → AllZip IsSameOrIdle s t
    → IsSound roots s → IsSound roots t

-- ---- what moving keeps

-- A system whose address bits and Command bits 0 and 1 alone change stays a system,
abbrev pub MovedIsSystem : Type 0
MovedIsSystem = (s t : System) → AllZip IsMoved s t → IsSystem s → IsSystem t

-- its bus ranges nest,
abbrev pub MovedIsNested : Type 0
MovedIsNested =
    (roots : List ℕ) (s t : System) → AllZip IsMoved s t → IsSystem s → IsNested roots s
    → IsNested roots t

-- it stays in the profile,
abbrev pub MovedIsInProfile : Type 0
MovedIsInProfile =
    (roots : List ℕ) (s t : System) → AllZip IsMoved s t → IsSystem s → HasChains s
    → IsInProfile roots s → IsInProfile roots t

-- and its capability lists end.
abbrev pub MovedHasChains : Type 0
MovedHasChains = (s t : System) → AllZip IsMoved s t → IsSystem s → HasChains s → HasChains t

-- In the profile all registers decode.
abbrev pub ProfileDecodes : Type 0
ProfileDecodes = (roots : List ℕ) (s : System) → IsInProfile roots s → All IsDecodable s

-- ---- largest first

-- Powers of two that are placed one after another, none above one before it, from a multiple of the first on: each stands at a multiple of itself.
abbrev pub LargestFirstIsAligned : Type 0
LargestFirstIsAligned =
    (start : ℕ) (sizes : List ℕ) → IsFalling sizes
    → (0 < length sizes → start % slice_index sizes 0 ≡ 0)
    → IsPlacedFrom start sizes (starts start sizes)

-- the size at this index, placed from a start on, takes the address
pub record TakesAddress (start : ℕ) (sizes : List ℕ) (a k : ℕ) : Type 0 where
  pub inside : k < length sizes
  pub low : slice_index (starts start sizes) k ≤ a
  pub high : a < slice_index (starts start sizes) k + slice_index sizes k

-- Sizes that are placed one after another take each address from the start to their sum, and no other:
abbrev pub PlacedFillsItsRange : Type 0
PlacedFillsItsRange =
    (start : ℕ) (sizes : List ℕ) (a : ℕ) → ((k : ℕ) × TakesAddress start sizes a k)
    ↔ ((start ≤ a) × (a < start + sum sizes))

-- each of them once.
abbrev pub PlacedTakesOnce : Type 0
PlacedTakesOnce =
    (start : ℕ) (sizes : List ℕ) (a j k : ℕ) → TakesAddress start sizes a j
    → TakesAddress start sizes a k → j ≡ k

-- ---- writes

-- To a device at most 9 writes of a plan are made, and to a bridge 11.
abbrev pub FewWritesEach : Type 0
FewWritesEach =
    (changes : List Change) → AreChanges changes → (c : Change) → Contains changes c
    → count_by (λ w. same_slot w.slot c.old.slot) (plan_writes changes) ≤ most_writes c

-- ---- windows

-- a window is the least power of two that its need goes into, and no smaller than a page
abbrev pub WindowIsLeastPower : Type 0
WindowIsLeastPower =
    (c : WindowKind) (need : ℕ) → need ≤ 2 ^ 65
    → IsLeastPower need (page_size c) (window_size c need)

-- ---- everything at its place

-- A system in the profile is sound where everything lies in the pool or in the windows above it, apart from what is beside it, and Command enables what there is to decode.
abbrev pub LaidOutIsSound : Type 0
LaidOutIsSound =
    (roots : List ℕ) (t : System) (pools : Pools) → IsNested roots t → IsInProfile roots t
    → HasChains t
    → IsLaidOut roots t pools → IsSwitchedOn t → IsFalse (are_bad pools) → IsSound roots t

-- and it stays sound where every ROM is switched on
abbrev pub RomsCanBeOn : Type 0
RomsCanBeOn =
    (roots : List ℕ) (t : System) (pools : Pools) → IsSystem t → IsSound roots t
    → IsLaidOut roots t pools → IsSwitchedOn t → IsFalse (are_bad pools)
    → IsSound roots (map with_rom_on t)

-- The places of what can be planned are those of items placed largest first, in the pool on the roots and in the windows behind bridges.
abbrev pub PlacesAreATable : Type 0
PlacesAreATable =
    (roots : List ℕ) (s : System) (pools : Pools) (c : WindowKind) → IsPlannable roots s pools
    → IsStrictlyIncreasing roots → IsTable roots s pools c (place_at roots s pools)

-- The registers that show these places make a system that is planned, sound and at its place.
abbrev pub PlannedNumbersAreFinal : Type 0
PlannedNumbersAreFinal =
    (roots : List ℕ) (s t : System) (pools : Pools) → IsPlannable roots s pools
    → IsStrictlyIncreasing roots → AllZip (IsPlannedFunction roots s pools) s t
    → IsFinal roots s t pools
