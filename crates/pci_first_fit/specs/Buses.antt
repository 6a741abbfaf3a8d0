-- What records have to place on a bus in a class.
use Rattle.std.specs.Prelude.{◌≡◌, ℕ, ◌*◌, ◌<◌, ◌≤◌, if◌then◌else◌, IsTrue, IfSome, List, [], map, length, take, Option, None, Some, slice_get, slice_index_or}
use Rattle.std.specs.List.{All, Contains, flat_map}
use Rattle.pci_spec.specs.Slot.{slot_number}
use Rattle.pci_spec.specs.Window.{WindowKind}
use Rattle.pci_spec.specs.System.{System, Function, is_bridge}
use Rattle.pci_spec.specs.Bus.{secondary, are_siblings}
use Rattle.settle_spec.specs.FirstPlace.{Extent as ExtentValue}
use Rattle.settle_spec.specs.Lists.{Request}
use Rattle.settle_spec.specs.Stands.{rank}
use Rattle.settle_spec.specs.Items.{PlacingItem as ItemValue, has_of, items_of, bus_items}
use Rattle.pci_base.specs.WindowKinds.{kind_value}
use Rattle.pci_function.specs.declared.record.Bridge.{Bridge}
use Rattle.pci_tree.specs.Admission.{Admission}
use Rattle.pci_place.specs.Above.{system_in}
use Rattle.pci_first_fit.specs.declared.extent.Extent.{Extent}
use Rattle.pci_first_fit.specs.declared.item.Item.{Item}
use Rattle.pci_first_fit.specs.declared.kept.Kept.{Kept}
use Rattle.pci_first_fit.specs.declared.listing.Classing.{Classing as CodeClassing}
use Rattle.pci_first_fit.specs.declared.listing.Listing.{Listing as CodeListing}
use Rattle.pci_first_fit.specs.declared.over.OpenWindows.{OpenWindows}
use Rattle.pci_first_fit.specs.declared.own.Terms.{Terms}
use Rattle.pci_first_fit.specs.Kept.{AreKeptParts}
use Rattle.pci_first_fit.specs.Slots.{demand_of}
use Rattle.pci_first_fit.specs.Over.{AreOpenOver}
use Rattle.pci_first_fit.specs.Spots.{IsExtent}
use Rattle.pci_first_fit.specs.Turns.{HasExtent}
use Rattle.pci_first_fit.specs.Own.{AreTerms, Asking, IsWindowOf, AreByRank, asked_item_value}

abbrev pub window_behind : List (Option Extent) → Option Bridge → Option Extent
window_behind windows None = None
window_behind windows (Some b) = slice_index_or windows b.secondary None

-- each window of a table has an address, and an alignment
abbrev pub AreWindows : List (Option Extent) → Type 0
AreWindows windows = All (λ window. IfSome window IsExtent) windows

-- the table has the new windows of the bridges of a bus, by the bus behind each
abbrev pub AreBehind : Request → System → WindowKind → (Function → ExtentValue) → ℕ → List (Option Extent) → Type 0
AreBehind q s c extent bus windows =
    (f : Function) → Contains s f → IsTrue (are_siblings q.roots bus f.slot.bus)
    → IsTrue (is_bridge f)
    → IsWindowOf (has_of q s c f) (extent f) (slice_index_or windows (secondary f) None)

-- ---- what items are listed by

-- what classes and new windows are told by: the root buses, the system, what is told of lists and slots, and the open windows over
-- each bus
pub record Classing : Type 0 where
  pub roots : List ℕ
  pub system : System
  pub terms : Terms
  pub overs : List OpenWindows

abbrev pub classing_of : Admission → Terms → List OpenWindows → Classing
classing_of a t overs =
    record { roots = a.roots; system = system_in a; terms = t; overs = overs }

-- those of the code
abbrev pub classing_value : {B : Type 0} → CodeClassing B → Classing
classing_value p = classing_of p.admitted.now p.terms p.overs.now

-- these open windows tell the classes of what is asked for below these roots, of which this is told
pub record TellsClasses (p : Classing) (q : Request) : Type 0 where
  pub rooted : q.roots ≡ p.roots
  pub terms : AreTerms (demand_of q) p.terms
  pub overs_are : AreOpenOver q p.system p.overs

-- what the items of a bus in a class are listed by: the new windows over each bus, and what keeps its place
pub record Listing : Type 0 where
  pub classing : Classing
  pub class : WindowKind
  pub bus : ℕ
  pub windows : List (Option Extent)
  pub kept : List Kept

abbrev pub bus_listing : Classing → WindowKind → ℕ → List (Option Extent) → List Kept → Listing
bus_listing p c bus windows kept =
    record { classing = p; class = c; bus = bus; windows = windows; kept = kept }

-- that of the code, on a bus
abbrev pub listing_value : {B : Type 0} → CodeListing B → ℕ → Listing
listing_value l bus =
    bus_listing (classing_value l.classing.now) (kind_value l.class) bus l.windows.now l.kept.now

-- what is asked for leaves the open windows, and what a test tells, where they stand, and has these new windows
pub record IsListingOf (a : Asking) (l : Listing) : Type 0 where
  pub left : TellsClasses l.classing a.request
  pub keeps_is : AreKeptParts l.classing.system a.keeps l.kept
  pub behind : AreBehind a.request l.classing.system l.class a.extent l.bus l.windows

-- ---- items

-- the items of a function, where it stands on the bus
abbrev pub items_of_function : Asking → Listing → Function → List ItemValue
items_of_function a l f =
    if are_siblings a.request.roots l.bus f.slot.bus
    then items_of a.request l.classing.system l.class a.keeps a.extent f else []

-- the items of the first functions, by rising slots and registers, all below the next function
pub record AreListedTo (s : System) (c : WindowKind) (k : ℕ) (items : List Item)
    (all : List ItemValue) : Type 0 where
  pub by_rank : AreByRank (map (asked_item_value s c) items) all
  pub below : (j : ℕ) (g : Function) → k ≤ j → slice_get s j ≡ Some g
      → (i : ItemValue) → Contains (map (asked_item_value s c) items) i
      → rank i.region < slot_number g.slot * 256

-- the items of the bus among the first functions
pub record AreOnBusTo (l : Listing) (k : ℕ) (items : List Item) : Type 0 where
  pub all : (a : Asking) → IsListingOf a l
      → AreListedTo l.classing.system l.class k items
      (flat_map (items_of_function a l) (take k l.classing.system))
  pub lawful : AreWindows l.windows → All HasExtent items

-- the items of the bus that are of functions below another bus: the first functions, and none of the rest
pub record AreBelow (l : Listing) (bus : ℕ) (items : List Item) : Type 0 where
  pub count : ℕ
  pub within : count ≤ length l.classing.system
  pub lower : (k : ℕ) (f : Function) → k < count → slice_get l.classing.system k ≡ Some f
      → f.slot.bus < bus
  pub rest : (k : ℕ) (f : Function) → count ≤ k → slice_get l.classing.system k ≡ Some f
      → IsTrue (are_siblings l.classing.roots l.bus f.slot.bus) → bus ≤ f.slot.bus
  pub first : AreOnBusTo l count items

-- then these are the items of the bus, by rising slots and registers
abbrev pub AreItemsOnBus : Listing → List Item → Type 0
AreItemsOnBus l items =
    (a : Asking) → IsListingOf a l
    → AreByRank (map (asked_item_value l.classing.system l.class) items)
    (flat_map (items_of_function a l) l.classing.system)

-- and in turn these are
abbrev pub AreInTurn : Listing → List Item → Type 0
AreInTurn l items =
    (a : Asking) → IsListingOf a l
    → map (asked_item_value l.classing.system l.class) items
    ≡ bus_items a.request l.classing.system l.class a.keeps a.extent l.bus
