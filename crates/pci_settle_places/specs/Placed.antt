-- The places of all parts that don't stay, and what can't be placed.
use Rattle.std.specs.Prelude.{◌≡◌, ℕ, ◌<◌, IsTrue, List, length, Option, None, Some, slice_get, slice_index_or, ⊤}
use Rattle.pci_spec.specs.Window.{WindowKind}
use Rattle.pci_spec.specs.System.{System, Function, Space, Io, Memory, Part, has_part, window_space}
use Rattle.settle_spec.specs.Lists.{Lists, Request}
use Rattle.settle_spec.specs.Kept.{Kept}
use Rattle.settle_spec.specs.Keeping.Places.{new_place, lacking}
use Rattle.pci_base.specs.declared.memory.Refused.{Refused}
use Rattle.pci_base.specs.declared.memory.Refused.TheVariants as refused
use Rattle.pci_base.specs.WindowKinds.{kind_value}
use Rattle.pci_first_fit.specs.declared.extent.Extent.{Extent}
use Rattle.pci_first_fit.specs.declared.over.Left.{Left}
use Rattle.pci_first_fit.specs.Slots.{Demand, demand_of}
use Rattle.pci_first_fit.specs.Over.{AreOpenOver}
use Rattle.pci_first_fit.specs.Keeping.{TellsKept}
use Rattle.pci_first_fit.specs.NewWindows.{HasNewWindows, IsTooLarge}
use Rattle.pci_settle_places.specs.declared.places.Places.{Places}
use Rattle.pci_settle_places.specs.declared.anew.Unplaced.{Unplaced}
use Rattle.pci_settle_places.specs.declared.anew.Unplaced.TheVariants as unplaced
use Rattle.pci_settle_places.specs.Staying.{PlaceSetting, IsStaying}
use Rattle.pci_settle_places.specs.Candidates.{candidate_value}
use Rattle.pci_settle_places.specs.Places.{place_range_in, placed_at}
use Rattle.pci_settle_places.specs.Spaces.{HasNewPlaces, space_lack}

-- ---- windows

abbrev pub HasClassWindows : PlaceSetting → WindowKind → List (Option Extent) → Type 0
HasClassWindows p c windows =
    (q : Request) (keep : Kept) → IsStaying q keep p → HasNewWindows q p.system c p.terms windows

-- a new window of a class is too large, or there was no memory
abbrev pub IsClassTooLarge : PlaceSetting → WindowKind → Refused Unplaced → Type 0
IsClassTooLarge p c refused.Memory = ⊤
IsClassTooLarge p c (refused.Fault (unplaced.Lacks x)) = ⊥
IsClassTooLarge p c (refused.Fault (unplaced.TooLarge class k)) =
    (kind_value class ≡ c) × ((q : Request) (keep : Kept) → IsStaying q keep p → IsTooLarge q p.system c k)

abbrev pub IsSpaceTooLarge : PlaceSetting → Space → Refused Unplaced → Type 0
IsSpaceTooLarge p space refused.Memory = ⊤
IsSpaceTooLarge p space (refused.Fault (unplaced.Lacks x)) = ⊥
IsSpaceTooLarge p space (refused.Fault (unplaced.TooLarge class k)) =
    (window_space (kind_value class) ≡ space)
    × ((q : Request) (keep : Kept) → IsStaying q keep p → IsTooLarge q p.system (kind_value class) k)

-- ---- of a space

-- nothing on the roots lacks a place in a space, and each part has its new one
pub record IsSpacePlaced (q : Request) (s : System) (keep : Kept) (space : Space)
    (table : List Places) : Type 0 where
  pub lack : space_lack q s keep space q.roots ≡ None
  pub places : HasNewPlaces q s keep space table

abbrev pub HasPlacesIn : PlaceSetting → Space → Lists → List Places → Type 0
HasPlacesIn p space l table =
    (q : Request) (keep : Kept) → IsStaying q keep p → q.lists ≡ l → IsSpacePlaced q p.system keep space table

-- an item on the roots is the first that lacks a place, or a new window is too large, or there was no memory
abbrev pub IsUnplacedIn : PlaceSetting → Space → Lists → Refused Unplaced → Type 0
IsUnplacedIn p space l refused.Memory = ⊤
IsUnplacedIn p space l (refused.Fault (unplaced.Lacks x)) =
    (q : Request) (keep : Kept) → IsStaying q keep p → q.lists ≡ l
    → space_lack q p.system keep space q.roots ≡ Some (candidate_value p.system x)
IsUnplacedIn p space l (refused.Fault (unplaced.TooLarge class k)) =
    (window_space (kind_value class) ≡ space)
    × ((q : Request) (keep : Kept) → IsStaying q keep p → q.lists ≡ l → IsTooLarge q p.system (kind_value class) k)

-- ---- of both

abbrev pub AreAllNone : List Places → Type 0
AreAllNone table =
    (k : ℕ) (d : Places) (part : Part) → k < length table
    → place_range_in (slice_index_or table k d) part ≡ None

-- nothing on the roots lacks a place, and each part of a function has the one that it gets: none for what stays
pub record ArePartsPlaced (q : Request) (s : System) (keep : Kept) (table : List Places) : Type 0 where
  pub count : length table ≡ length s
  pub lack : lacking q s keep ≡ None
  pub each : (k : ℕ) (f : Function) (d : Places) (part : Part) → slice_get s k ≡ Some f
      → IsTrue (has_part f part)
      → place_range_in (slice_index_or table k d) part
      ≡ placed_at (new_place q s keep record { function = f; part = part })

-- a new window is too large, and where it is of memory, nothing lacks a place in I/O
pub record IsFirstWindowTooLarge (q : Request) (s : System) (keep : Kept) (c : WindowKind) (k : ℕ) : Type 0 where
  pub large : IsTooLarge q s c k
  pub io : window_space c ≡ Memory → space_lack q s keep Io q.roots ≡ None

-- ---- whatever is asked for

-- what is asked for below these roots, in these lists and behind these slots, leaves these windows where they stand, and keeps
-- this
pub record IsLeaving (q : Request) (keep : Kept) (roots : List ℕ) (s : System) (d : Demand)
    (left : Left) : Type 0 where
  pub rooted : q.roots ≡ roots
  pub demands : demand_of q ≡ d
  pub overs_are : AreOpenOver q s left.over.now
  pub keeps_is : TellsKept q s keep left

-- something can be asked for that leaves them
pub record CanBeLeft (roots : List ℕ) (s : System) (d : Demand) (left : Left) : Type 0 where
  pub request : Request
  pub keep : Kept
  pub leaving : IsLeaving request keep roots s d left

-- all that doesn't stay has its place
abbrev pub ArePlacesOff : List ℕ → System → Demand → Left → List Places → Type 0
ArePlacesOff roots s d left table =
    (q : Request) (keep : Kept) → IsLeaving q keep roots s d left → ArePartsPlaced q s keep table

-- an item on the roots is the first that lacks a place, or a new window is too large, or there was no memory
abbrev pub IsUnplacedOff : List ℕ → System → Demand → Left → Refused Unplaced → Type 0
IsUnplacedOff roots s d left refused.Memory = ⊤
IsUnplacedOff roots s d left (refused.Fault (unplaced.Lacks x)) =
    (q : Request) (keep : Kept) → IsLeaving q keep roots s d left → lacking q s keep ≡ Some (candidate_value s x)
IsUnplacedOff roots s d left (refused.Fault (unplaced.TooLarge class k)) =
    (q : Request) (keep : Kept) → IsLeaving q keep roots s d left
    → IsFirstWindowTooLarge q s keep (kind_value class) k
