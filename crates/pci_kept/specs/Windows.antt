-- The new windows of bridges, of all classes, and open ones of all addresses.
use Rattle.std.specs.Prelude.{◌≡◌, ℕ, ◌+◌, ◌^◌, ◌==◌, Bool, false, ◌&&◌, ◌||◌, IsTrue, List, Option, None, Some, ⊤}
use Rattle.std.specs.List.{Contains}
use Rattle.pci_spec.specs.Window.{WindowKind, IoWindow, MemoryWindow, PrefetchWindow}
use Rattle.pci_spec.specs.System.{System, Function, Window}
use Rattle.pci_spec.specs.Decoded.{Range}
use Rattle.plan_spec.specs.Plan.{is_open}
use Rattle.plan_spec.specs.Planning.Layout.{range_of}
use Rattle.settle_spec.specs.Lists.{Request}
use Rattle.pci_base.specs.declared.memory.Refused.{Refused}
use Rattle.pci_base.specs.declared.memory.Refused.TheVariants as refused
use Rattle.pci_base.specs.declared.window_kind.WindowKind.{WindowKind as CodeKind}
use Rattle.pci_base.specs.declared.window_kind.WindowKind.TheVariants as kinds
use Rattle.pci_base.specs.declared.window_kind.ByKind.{ByKind}
use Rattle.pci_base.specs.WindowKinds.{kind_value, by_kind}
use Rattle.pci_image.specs.Windows.{window_of}
use Rattle.pci_function.specs.declared.record.Bridge.{Bridge}
use Rattle.pci_function.specs.declared.record.Record.{Record}
use Rattle.pci_tree.specs.Passes.{range_in}
use Rattle.pci_first_fit.specs.declared.extent.Extent.{Extent}
use Rattle.pci_first_fit.specs.Buses.{AreWindows, Classing, TellsClasses}
use Rattle.pci_first_fit.specs.NewWindows.{HasNewWindows, IsTooLarge, AreMarkedWindows}
use Rattle.pci_kept.specs.declared.windows.TooLarge.{TooLarge}

-- ---- new windows

abbrev pub HasWindowsOf : Classing → WindowKind → List (Option Extent) → Type 0
HasWindowsOf p c windows =
    (q : Request) → TellsClasses p q → HasNewWindows q p.system c p.terms windows

-- a new window of a class is too large, or there was no memory
abbrev pub IsTooLargeOf : Classing → WindowKind → Refused TooLarge → Type 0
IsTooLargeOf p c refused.Memory = ⊤
IsTooLargeOf p c (refused.Fault x) =
    (kind_value x.class ≡ c)
    × ((q : Request) → TellsClasses p q → IsTooLarge q p.system c x.function)

-- a table for each class has its new windows
abbrev pub HasAllWindows : Classing → ByKind (List (Option Extent)) → Type 0
HasAllWindows p windows =
    (class : CodeKind) → HasWindowsOf p (kind_value class) (by_kind windows class)

abbrev pub AreAllLawful : ByKind (List (Option Extent)) → Type 0
AreAllLawful windows = (class : CodeKind) → AreWindows (by_kind windows class)

-- the first class of which a bridge is named
abbrev pub first_class_too_large : Option ℕ → Option ℕ → Option ℕ → Option TooLarge
first_class_too_large (Some k) memory prefetchable = Some record { class = kinds.Io; function = k }
first_class_too_large None (Some k) prefetchable = Some record { class = kinds.Memory; function = k }
first_class_too_large None None (Some k) = Some record { class = kinds.Prefetchable; function = k }
first_class_too_large None None None = None

-- or marks those of 2^64 addresses or more
abbrev pub HasAllMarked : Classing → ByKind (List (Option Extent)) → Type 0
HasAllMarked p windows =
    (class : CodeKind) → AreMarkedWindows p (kind_value class) (by_kind windows class)

-- where one is so large, a bridge is named of which it is
abbrev pub AreAllNew : Classing → ByKind (List (Option Extent)) → Option TooLarge → Type 0
AreAllNew p windows None = HasAllWindows p windows
AreAllNew p windows (Some x) =
    HasAllMarked p windows
    × ((q : Request) → TellsClasses p q → IsTooLarge q p.system (kind_value x.class) x.function)

-- ---- windows of all addresses

abbrev pub is_whole_range : Option Range → Bool
is_whole_range None = false
is_whole_range (Some r) = r.first == 0 && r.last == 0xffff_ffff_ffff_ffff

abbrev pub opens_whole : Bridge → Bool
opens_whole b =
    is_whole_range (range_in (window_of b.windows IoWindow))
    || is_whole_range (range_in (window_of b.windows MemoryWindow))
    || is_whole_range (range_in (window_of b.windows PrefetchWindow))

abbrev pub whole_by : Option Bridge → Bool
whole_by None = false
whole_by (Some b) = opens_whole b

-- an open window of a bridge has all addresses of 64 bits
abbrev pub has_whole : Record → Bool
has_whole r = whole_by r.bridge

abbrev pub HasWhole : List Record → Type 0
HasWhole records = (r : Record) × (Contains records r × IsTrue (has_whole r))

-- a range has all addresses of 64 bits
pub record IsWholeRange (r : Range) : Type 0 where
  pub first : r.first ≡ 0
  pub last : r.last + 1 ≡ 2 ^ 64

-- an open window of a function is such a range
pub record HasWholeWindow (s : System) : Type 0 where
  pub function : Function
  pub listed : Contains s function
  pub class : WindowKind
  pub shows : IsTrue (is_open function class)
  pub whole : IsWholeRange (range_of function (Window class))
