-- The windows over a bus that tell the classes of BARs.
use Rattle.std.specs.Prelude.{◌≡◌, ℕ, Bool, false, ◌||◌, if◌then◌else◌, List, Option, None, Some, slice_index_or}
use Rattle.std.specs.Option.{option_map}
use Rattle.std.specs.List.{Contains}
use Rattle.pci_spec.specs.Window.{WindowKind, MemoryWindow, PrefetchWindow}
use Rattle.pci_spec.specs.Decoded.{Range}
use Rattle.pci_spec.specs.System.{System, Function, Window}
use Rattle.pci_spec.specs.Bus.{is_root}
use Rattle.plan_spec.specs.Plan.{is_open}
use Rattle.plan_spec.specs.Planning.Layout.{range_of}
use Rattle.settle_spec.specs.Lists.{Request}
use Rattle.settle_spec.specs.Parts.{lies_within, bridge_over}
use Rattle.pci_base.specs.Ranges.{decoded_range_of}
use Rattle.pci_place.specs.Above.{IsAbove}
use Rattle.pci_first_fit.specs.declared.over.OpenWindows.{OpenWindows}
use Rattle.pci_first_fit.specs.declared.over.Over.{Over}

-- whether there is a range, and holds another
abbrev pub range_holds : Option Range → Range → Bool
range_holds None r = false
range_holds (Some outer) r = lies_within r outer

-- the addresses of a window, where there is a bridge and the window is open
abbrev pub open_range : WindowKind → Option Function → Option Range
open_range kind None = None
open_range kind (Some b) = if is_open b kind then Some (range_of b (Window kind)) else None

-- those of the window over a bus by which BARs there have their class: a root has none, and neither has what is placed anew
abbrev pub class_window : Request → System → WindowKind → ℕ → Option Range
class_window q s kind bus =
    if q.anew || is_root q.roots bus then None else open_range kind (bridge_over s bus)

pub record AreClassWindows (q : Request) (s : System) (bus : ℕ) (o : OpenWindows) : Type 0 where
  pub memory : option_map decoded_range_of o.memory ≡ class_window q s MemoryWindow bus
  pub prefetch : option_map decoded_range_of o.prefetch ≡ class_window q s PrefetchWindow bus

abbrev pub no_windows : OpenWindows
no_windows = record { memory = None; prefetch = None }

-- a table has them for each bus with a function on it, where it has an entry, and elsewhere there are none
abbrev pub AreOpenOver : Request → System → List OpenWindows → Type 0
AreOpenOver q s table =
    (f : Function) → Contains s f
    → AreClassWindows q s f.slot.bus (slice_index_or table f.slot.bus no_windows)

-- what is over a bus
pub record IsOverBus (q : Request) (s : System) (bus : ℕ) (o : Over) : Type 0 where
  pub above : IsAbove s bus o.above
  pub windows_are : AreClassWindows q s bus o.windows
