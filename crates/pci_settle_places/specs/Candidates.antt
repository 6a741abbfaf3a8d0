-- What is placed on a bus in a space, as the definitions have it.
use Rattle.std.specs.Prelude.{◌≡◌, ℕ, ◌<◌, IsTrue, List, ◌++◌, map, Option}
use Rattle.pci_spec.specs.Window.{WindowKind, IoWindow, MemoryWindow, PrefetchWindow}
use Rattle.pci_spec.specs.System.{System, Space, Io, Memory, has_part}
use Rattle.settle_spec.specs.Lists.{Lists, Request}
use Rattle.settle_spec.specs.Items.{PlacingItem as ItemValue, bus_items, new_window}
use Rattle.settle_spec.specs.Kept.{Kept}
use Rattle.settle_spec.specs.Keeping.Places.{space_items}
use Rattle.pci_base.specs.declared.window_kind.WindowKind.{WindowKind as Class}
use Rattle.pci_base.specs.Space.{space_of}
use Rattle.pci_base.specs.WindowKinds.{kind_value}
use Rattle.pci_tree.specs.Admission.{Admission}
use Rattle.pci_first_fit.specs.declared.extent.Extent.{Extent}
use Rattle.pci_first_fit.specs.declared.item.Item.{Item}
use Rattle.pci_first_fit.specs.declared.own.Terms.{Terms}
use Rattle.pci_first_fit.specs.Spots.{IsExtent}
use Rattle.pci_first_fit.specs.Own.{asked_item_value}
use Rattle.pci_first_fit.specs.Buses.{AreWindows}
use Rattle.pci_first_fit.specs.NewWindows.{HasNewWindows}
use Rattle.pci_settle_places.specs.declared.candidate.Candidate.{Candidate}
use Rattle.pci_settle_places.specs.declared.candidate.SpaceWindows.{SpaceWindows}
use Rattle.pci_settle_places.specs.declared.staying.Staying.{Staying}
use Rattle.pci_settle_places.specs.declared.setting.Pass as declared
use Rattle.pci_settle_places.specs.Staying.{PlaceSetting, setting, place_setting_of, place_setting_value, IsStaying}

abbrev pub of_class : Class → Item → Candidate
of_class class i = record { class = class; item = i }

abbrev pub candidate_value : System → Candidate → ItemValue
candidate_value s c = asked_item_value s (kind_value c.class) c.item

-- it has an address, and an alignment
abbrev pub HasAddressAndAlignment : Candidate → Type 0
HasAddressAndAlignment c = IsExtent c.item.extent

-- it is of one of so many functions
abbrev pub IsWithin : ℕ → Candidate → Type 0
IsWithin count c = c.item.function < count

-- its function has the part
abbrev pub HasPart : System → Candidate → Type 0
HasPart s c =
    IsTrue (has_part (candidate_value s c).region.function (candidate_value s c).region.part)

-- ---- of a class

-- to some items those of a bus in a class are added, in turn
abbrev pub AreAddedOf : PlaceSetting → WindowKind → List (Option Extent) → ℕ → List Candidate → List Candidate → Type 0
AreAddedOf p c windows bus old new =
    (q : Request) (keep : Kept) → IsStaying q keep p → HasNewWindows q p.system c p.terms windows
    → map (candidate_value p.system) new
    ≡ map (candidate_value p.system) old
    ++ bus_items q p.system c keep.stays (new_window q p.system c) bus

-- ---- of a space

abbrev pub windows_of_kind : WindowKind → SpaceWindows → List (Option Extent)
windows_of_kind IoWindow w = w.plain
windows_of_kind MemoryWindow w = w.plain
windows_of_kind PrefetchWindow w = w.prefetch

pub record AreSpaceWindows (w : SpaceWindows) : Type 0 where
  pub plain : AreWindows w.plain
  pub prefetch : AreWindows w.prefetch

-- the tables have the new windows of each class of a space
abbrev pub HasSpaceWindows : Request → System → Space → Terms → SpaceWindows → Type 0
HasSpaceWindows q s Io t w = HasNewWindows q s IoWindow t w.plain
HasSpaceWindows q s Memory t w =
    HasNewWindows q s MemoryWindow t w.plain × HasNewWindows q s PrefetchWindow t w.prefetch

-- what the places of a space are found by: the new windows of its classes too
pub record Pass : Type 0 where
  pub setting : PlaceSetting
  pub space : Space
  pub windows : SpaceWindows

abbrev pub pass : List ℕ → System → Space → Terms → Staying → SpaceWindows → Pass
pass roots s space t st w = record { setting = setting roots s t st; space = space; windows = w }

abbrev pub pass_of : Admission → Space → Terms → Staying → SpaceWindows → Pass
pass_of a space t st w = record { setting = place_setting_of a t st; space = space; windows = w }

abbrev pub pass_value : {B : Type 0} → declared.Pass B → Pass
pass_value p = record {
  setting = place_setting_value p.setting.now;
  space = space_of p.space;
  windows = p.windows.now;
}

-- they are those of what is asked for
abbrev pub HasAskedWindows : Request → Pass → Type 0
HasAskedWindows q p = HasSpaceWindows q p.setting.system p.space p.setting.terms p.windows

-- they are the new windows, whatever is asked for in these terms
abbrev pub HasWindowsIn : Pass → Type 0
HasWindowsIn p = (q : Request) (keep : Kept) → IsStaying q keep p.setting → HasAskedWindows q p

-- something can be asked for of which they are the new windows
pub record KnowsWindows (p : Pass) : Type 0 where
  pub request : Request
  pub keep : Kept
  pub stay : IsStaying request keep p.setting
  pub has : HasAskedWindows request p

-- something can be asked for in these lists of which this stays
pub record KnowsRequest (p : PlaceSetting) (l : Lists) : Type 0 where
  pub request : Request
  pub keep : Kept
  pub stay : IsStaying request keep p
  pub lists : request.lists ≡ l

-- the items of a bus in a space
abbrev pub AreCandidatesOf : Pass → ℕ → List Candidate → Type 0
AreCandidatesOf p bus candidates =
    (q : Request) (keep : Kept) → IsStaying q keep p.setting → HasAskedWindows q p
    → map (candidate_value p.setting.system) candidates
    ≡ space_items q p.setting.system keep p.space bus
