-- The new windows of bridges in a class, by the bus behind each.
use Rattle.std.specs.Prelude.{◌≡◌, ℕ, ◌-◌, ◌<◌, ◌≤◌, ◌^◌, ◌⊎◌, Bool, true, false, if◌then◌else◌, IsTrue, IfSome, List, map, length, set, Option, None, Some, slice_index_or}
use Rattle.std.specs.List.{Contains}
use Rattle.std.specs.Option.{option_map}
use Rattle.pci_spec.specs.Window.{WindowKind, IoWindow, MemoryWindow, PrefetchWindow, page_size}
use Rattle.pci_spec.specs.System.{System, Function, is_bridge}
use Rattle.pci_spec.specs.Bus.{secondary}
use Rattle.settle_spec.specs.FirstPlace.{Extent as ExtentValue}
use Rattle.settle_spec.specs.Lists.{Request}
use Rattle.settle_spec.specs.Parts.{FunctionPart}
use Rattle.settle_spec.specs.Spares.{with_spare}
use Rattle.settle_spec.specs.Items.{PlacingItem as ItemValue, has_of, bus_items, nothing, extent_around, new_window, window_to}
use Rattle.pci_image.specs.declared.window.Windows.{Windows}
use Rattle.pci_function.specs.declared.record.Bridge.{Bridge}
use Rattle.pci_place.specs.Above.{is_wide_in}
use Rattle.pci_place.specs.Items.{function_in}
use Rattle.pci_first_fit.specs.declared.extent.Extent.{Extent}
use Rattle.pci_first_fit.specs.declared.own.Terms.{Terms}
use Rattle.pci_first_fit.specs.Spots.{extent_value, IsExtent}
use Rattle.pci_first_fit.specs.Placings.{item_extent}
use Rattle.pci_first_fit.specs.Slots.{demand_of, spare_by}
use Rattle.pci_first_fit.specs.Own.{AreTerms, Asking, IsWindowOf}
use Rattle.pci_first_fit.specs.Buses.{AreBehind, Classing, TellsClasses}

-- ---- of one bridge

-- the highest address that the window of a class can hold
abbrev pub highest_by : WindowKind → Windows → ℕ
highest_by IoWindow w = if is_wide_in w.io then 0xffff_ffff else 0xffff
highest_by MemoryWindow w = 0xffff_ffff
highest_by PrefetchWindow w = if is_wide_in w.pref then 0xffff_ffff_ffff_ffff else 0xffff_ffff

-- the extent around the items of the bus behind a bridge, and the spare where addresses are wanted behind them
abbrev pub around_bus : Request → System → WindowKind → (Function → ExtentValue) → Bridge → ℕ → ExtentValue
around_bus q s c extent b wanted =
    extent_around (page_size c) (highest_by c b.windows)
    (with_spare (spare_by c wanted (highest_by c b.windows))
    (map item_extent (bus_items q s c nothing extent b.secondary)))

-- there is an item, and the extent around them has 2^64 addresses or more
pub record AreTooLarge (items : List ItemValue) (around : ExtentValue) : Type 0 where
  pub some : 0 < length items
  pub large : 2 ^ 64 ≤ around.size

-- None where there is no item, else the extent around them
abbrev pub IsEntry : List ItemValue → ExtentValue → Option Extent → Type 0
IsEntry items around None = length items ≡ 0
IsEntry items around (Some x) = (0 < length items) × (extent_value x ≡ around)

-- what holds of the items behind a bridge, whatever is asked for
abbrev pub OfItems : Classing → WindowKind → List (Option Extent) → Bridge → ℕ → (List ItemValue → ExtentValue → Type 0) → Type 0
OfItems p c windows b wanted holds =
    (q : Request) (extent : Function → ExtentValue) → TellsClasses p q
    → AreBehind q p.system c extent b.secondary windows
    → holds (bus_items q p.system c nothing extent b.secondary) (around_bus q p.system c extent b wanted)

-- what stands in a table for a window of 2^64 addresses or more: it has no place in any range
abbrev pub nowhere : Extent
nowhere = record { size = 2 ^ 64 - 1; alignment = 1; highest = 0 }

-- the entry of the bus behind a bridge is put into a table
pub record IsWindowPut (p : Classing) (c : WindowKind) (b : Bridge) (wanted : ℕ)
    (old new : List (Option Extent)) : Type 0 where
  pub entry : Option Extent
  pub put : new ≡ set old b.secondary entry
  pub lawful : IfSome entry IsExtent
  pub small : IfSome entry (λ e. e.size < 2 ^ 64)
  pub is : OfItems p c old b wanted (λ items around. IsEntry items around entry)

-- where it has fewer than 2^64 addresses; else it is marked
abbrev pub IsNewWindowPut : Classing → WindowKind → Bridge → ℕ → List (Option Extent) → List (Option Extent) → Bool → Type 0
IsNewWindowPut p c b wanted old new true = IsWindowPut p c b wanted old new
IsNewWindowPut p c b wanted old new false =
    (new ≡ set old b.secondary (Some nowhere)) × OfItems p c old b wanted AreTooLarge

-- ---- of all bridges

-- all is placed anew below these roots, as this tells of lists and slots
pub record IsAnew (q : Request) (roots : List ℕ) (t : Terms) : Type 0 where
  pub rooted : q.roots ≡ roots
  pub anew : IsTrue q.anew
  pub terms : AreTerms (demand_of q) t

-- the window in a table over a bus
abbrev pub new_window_in : List (Option Extent) → ℕ → Option ExtentValue
new_window_in windows bus = option_map extent_value (slice_index_or windows bus None)

-- a table has the new window over each bus, and so those of the bridges on each
pub record HasNewWindows (q : Request) (s : System) (c : WindowKind) (t : Terms)
    (windows : List (Option Extent)) : Type 0 where
  pub over : (bus : ℕ) → bus < 256 → new_window_in windows bus ≡ window_to q s c bus
  pub terms : AreTerms (demand_of q) t
  pub behind : (bus : ℕ) → AreBehind q s c (new_window q s c) bus windows

-- what is asked for, with the new windows of a class
abbrev pub asking_of : Request → System → WindowKind → (FunctionPart → Bool) → Asking
asking_of q s c keeps = record { request = q; keeps = keeps; extent = new_window q s c }

-- the new window of a function has 2^64 addresses or more
pub record IsTooLarge (q : Request) (s : System) (c : WindowKind) (k : ℕ) : Type 0 where
  pub within : k < length s
  pub bridge : IsTrue (is_bridge (function_in s k))
  pub behind : IsTrue (has_of q s c (function_in s k))
  pub large : 2 ^ 64 ≤ (new_window q s c (function_in s k)).size

-- and the table has those of all bridges in higher slots
pub record IsLastTooLarge (q : Request) (s : System) (c : WindowKind) (windows : List (Option Extent))
    (k : ℕ) : Type 0 where
  pub too_large : IsTooLarge q s c k
  pub above : (j : ℕ) → k < j → j < length s → IsTrue (is_bridge (function_in s j))
      → IsWindowOf (has_of q s c (function_in s j)) (new_window q s c (function_in s j))
      (slice_index_or windows (secondary (function_in s j)) None)

-- the bridge that is named: the first that is found
abbrev pub first_large : Option ℕ → Bool → ℕ → Option ℕ
first_large (Some j) fits k = Some j
first_large None true k = None
first_large None false k = Some k

-- the table has the new window over each bus, or a bridge is named whose new window has 2^64 addresses or more
abbrev pub AreNewWindows : Classing → WindowKind → List (Option Extent) → Option ℕ → Type 0
AreNewWindows p c windows None =
    (q : Request) → TellsClasses p q → HasNewWindows q p.system c p.terms windows
AreNewWindows p c windows (Some k) =
    (q : Request) → TellsClasses p q → IsLastTooLarge q p.system c windows k

-- ---- where some are too large

-- an extent of the code is one of the definitions, or marks one of 2^64 addresses or more
abbrev pub IsMarking : ExtentValue → Extent → Type 0
IsMarking e x = (extent_value x ≡ e) ⊎ ((x ≡ nowhere) × (2 ^ 64 ≤ e.size))

-- the new window of a bridge, or its mark, where the bridge has something of the class behind it
abbrev pub IsMarkedOf : Bool → ExtentValue → Option Extent → Type 0
IsMarkedOf there e None = there ≡ false
IsMarkedOf there e (Some x) = IsTrue there × IsMarking e x

-- a table has the new window of each bridge, or its mark
abbrev pub HasMarkedWindows : Request → System → WindowKind → List (Option Extent) → Type 0
HasMarkedWindows q s c windows =
    (f : Function) → Contains s f → IsTrue (is_bridge f)
    → IsMarkedOf (has_of q s c f) (new_window q s c f) (slice_index_or windows (secondary f) None)

abbrev pub AreMarkedWindows : Classing → WindowKind → List (Option Extent) → Type 0
AreMarkedWindows p c windows =
    (q : Request) → TellsClasses p q → HasMarkedWindows q p.system c windows

-- the extents that a table tells, by the bus behind each bridge
abbrev pub extent_or : Option Extent → ExtentValue
extent_or None = extent_value nowhere
extent_or (Some x) = extent_value x

abbrev pub new_window_extent : List (Option Extent) → Function → ExtentValue
new_window_extent windows f = extent_or (slice_index_or windows (secondary f) None)
