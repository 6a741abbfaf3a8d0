-- The places of all items of a space.
use Rattle.std.specs.Prelude.{◌≡◌, ℕ, ◌<◌, IsTrue, List, [], ◌∷◌, length, Option, None, Some, IfNone, slice_get, slice_index_or, ◌⊎◌}
use Rattle.std.specs.Option.{option_map}
use Rattle.std.specs.List.{Contains}
use Rattle.pci_spec.specs.Window.{WindowKind}
use Rattle.pci_spec.specs.System.{System, Function, Space, Part, IsSystem, has_part, space_of}
use Rattle.pci_spec.specs.Bus.{is_root}
use Rattle.pci_spec.specs.Decoded.{Range as DecodedRange}
use Rattle.settle_spec.specs.Lists.{Lists, Request}
use Rattle.settle_spec.specs.Parts.{bridge_over}
use Rattle.settle_spec.specs.FirstPlace.{else_at, first_place}
use Rattle.settle_spec.specs.Items.{PlacingItem as ItemValue, Placed, place_each}
use Rattle.settle_spec.specs.Places.{placed_of, first_lack}
use Rattle.settle_spec.specs.Kept.{Kept}
use Rattle.settle_spec.specs.Keeping.Places.{space_items, taken_at, place_behind, placing_on, new_place}
use Rattle.pci_base.specs.declared.range.Range.{Range}
use Rattle.pci_base.specs.declared.window_kind.ByKind.{ByKind}
use Rattle.pci_base.specs.WindowKinds.{kind_value}
use Rattle.pci_function.specs.declared.record.Bridge.{Bridge}
use Rattle.pci_first_fit.specs.declared.place.Places.{Places as ToldPlaces}
use Rattle.pci_first_fit.specs.Kept.{nothing_kept}
use Rattle.pci_first_fit.specs.Tables.{untold}
use Rattle.pci_settle_places.specs.declared.candidate.Candidate.{Candidate}
use Rattle.pci_settle_places.specs.declared.staying.Staying.{Staying}
use Rattle.pci_settle_places.specs.declared.places.Places.{Places}
use Rattle.pci_settle_places.specs.Candidates.{candidate_value, Pass, HasAskedWindows}
use Rattle.pci_settle_places.specs.Staying.{IsStaying}
use Rattle.pci_settle_places.specs.Columns.{told_place}
use Rattle.pci_settle_places.specs.BusPlaces.{place_beside}
use Rattle.pci_settle_places.specs.Windows.{window_range_at, range_alone}
use Rattle.pci_settle_places.specs.Places.{place_range_in, placed_at, NotesOf}

-- ---- of a bus

abbrev pub IsFirstRoot : List ℕ → Option ℕ → Type 0
IsFirstRoot roots None = roots ≡ []
IsFirstRoot roots (Some root) = (root < 256) × IsTrue (is_root roots root)

-- there is no root, or what is placed on one of them is noted, and the first item without a place is answered
pub record AreNotedFor (q : Request) (keep : Kept) (p : Pass) (old new : List Places)
    (lack : Option Candidate) (root : ℕ) : Type 0 where
  pub small : root < 256
  pub on : IsTrue (is_root q.roots root)
  pub noted : NotesOf p.setting.system
      (placed_of (placing_on q p.setting.system keep p.space root)) old new
  pub lacking : option_map (candidate_value p.setting.system) lack
      ≡ first_lack (placing_on q p.setting.system keep p.space root) None

pub record HaveNoRoot (roots : List ℕ) (old new : List Places) (lack : Option Candidate) : Type 0 where
  pub none : roots ≡ []
  pub same : new ≡ old
  pub lacking : lack ≡ None

abbrev pub AreNotedOnRoots : Pass → Lists → List Places → List Places → Option Candidate → Type 0
AreNotedOnRoots p l old new lack =
    HaveNoRoot p.setting.roots old new lack
    ⊎ ((root : ℕ) × ((q : Request) (keep : Kept) → IsStaying q keep p.setting → q.lists ≡ l → HasAskedWindows q p
    → AreNotedFor q keep p old new lack root))

-- each item of a bus has the place that is told, or else the first one in these windows
abbrev pub HasWindowsOver : Request → System → Kept → Space → (ℕ → List Placed) → ℕ → List ToldPlaces → ByKind (Option Range) → (WindowKind → Option DecodedRange) → Type 0
HasWindowsOver q s keep space placed bus places grown windows =
    (c : Candidate) → Contains (space_items q s keep space bus) (candidate_value s c)
    → (taken : List DecodedRange)
    → place_behind keep placed (candidate_value s c) taken (bridge_over s bus)
    ≡ else_at (told_place places grown c)
    (first_place (range_alone (windows (kind_value c.class))) taken (candidate_value s c).extent)

-- what the windows of a bridge come to, where they grow
abbrev pub grown_by : Staying → ℕ → ByKind (Option Range)
grown_by st k = slice_index_or st.left.grown.now k untold

-- the windows of a bridge: those that it keeps, and those that it has in a table of places
abbrev pub windows_by : Staying → List Places → ℕ → Places → Bridge → WindowKind → Option DecodedRange
windows_by st table k d b =
    window_range_at (slice_index_or st.left.kept.now k nothing_kept) (grown_by st k) b (slice_index_or table k d)

-- what is placed in them is noted
abbrev pub AreNotedBehind : Pass → ℕ → Bridge → List Places → List Places → Type 0
AreNotedBehind p k b old new =
    (q : Request) (keep : Kept) (placed : ℕ → List Placed) (d : Places) → IsSystem p.setting.system
    → IsStaying q keep p.setting → HasAskedWindows q p
    → HasWindowsOver q p.setting.system keep p.space placed b.secondary p.setting.staying.left.places.now
    (grown_by p.setting.staying k) (windows_by p.setting.staying old k d b)
    → NotesOf p.setting.system
    (placed_of (place_each (place_beside q p.setting.system keep placed)
    (taken_at q p.setting.system keep p.space b.secondary)
    (space_items q p.setting.system keep p.space b.secondary))) old new

-- ---- of all buses

-- no part of a space has a place
abbrev pub HasNoPlaceInSpace : System → Space → List Places → Type 0
HasNoPlaceInSpace s space table =
    (k : ℕ) (f : Function) (d : Places) (part : Part) → slice_get s k ≡ Some f
    → IsTrue (has_part f part) → space_of f part ≡ space
    → place_range_in (slice_index_or table k d) part ≡ None

-- parts of another space keep theirs
pub record KeepsOtherSpace (s : System) (space : Space) (old new : List Places) : Type 0 where
  pub count : length new ≡ length old
  pub others : (k : ℕ) (f : Function) (d : Places) (part : Part) → slice_get s k ≡ Some f
      → IsTrue (has_part f part) → (space_of f part ≡ space → ⊥)
      → place_range_in (slice_index_or new k d) part ≡ place_range_in (slice_index_or old k d) part

-- each part of a space has its new place
abbrev pub HasNewPlaces : Request → System → Kept → Space → List Places → Type 0
HasNewPlaces q s keep space table =
    (k : ℕ) (f : Function) (d : Places) (part : Part) → slice_get s k ≡ Some f
    → IsTrue (has_part f part) → space_of f part ≡ space
    → place_range_in (slice_index_or table k d) part
    ≡ placed_at (new_place q s keep record { function = f; part = part })

-- the first item on the roots that has no place in a space: all roots are one bus
abbrev pub space_lack : Request → System → Kept → Space → List ℕ → Option ItemValue
space_lack q s keep space [] = None
space_lack q s keep space (root ∷ roots) = first_lack (placing_on q s keep space root) None

-- an item on the roots lacks a place, or all has its new place
pub record AreSpacePlaces (q : Request) (s : System) (keep : Kept) (space : Space)
    (table : List Places) (lack : Option Candidate) : Type 0 where
  pub lack_is : space_lack q s keep space q.roots ≡ option_map (candidate_value s) lack
  pub places : IfNone lack (HasNewPlaces q s keep space table)

abbrev pub AreSpacePlacesIn : Pass → Lists → List Places → Option Candidate → Type 0
AreSpacePlacesIn p l table lack =
    (q : Request) (keep : Kept) → IsStaying q keep p.setting → q.lists ≡ l → HasAskedWindows q p
    → AreSpacePlaces q p.setting.system keep p.space table lack
