-- The windows of the code as those of the definitions, and what their rules say.
use Rattle.std.specs.Prelude.{◌≡◌, ◌≢◌, ℕ, ◌<◌, ◌↔◌, IsTrue, IsFalse, List, Option, None, Some, MatchOption}
use Rattle.pci_spec.specs.Header.{layout}
use Rattle.pci_spec.specs.Window.{WindowKind, IoWindow, MemoryWindow, PrefetchWindow, window_register, breaks_window_rule, holds}
use Rattle.pci_spec.specs.Decoded.{DecodedWindow, DecodedWindows, InRange}
use Rattle.pci_spec.specs.Fault.{has_no_vendor, HasWindowFault}
use Rattle.pci_image.specs.declared.window.Windows.{Windows}
use Rattle.pci_image.specs.declared.fault.ImageFault.{ImageFault}
use Rattle.pci_image.specs.declared.fault.ImageFault.TheVariants.{NoVendor, HeaderKind, WindowMask}

-- the windows as the definitions have them
abbrev pub decoded_windows_of : Windows → DecodedWindows
decoded_windows_of w = record { io = w.io; memory = w.mem; prefetch = w.pref }

-- the window of a kind
abbrev pub window_of : Windows → WindowKind → Option DecodedWindow
window_of w IoWindow = w.io
window_of w MemoryWindow = Some w.mem
window_of w PrefetchWindow = w.pref

-- a function answers, is a bridge, and none of its windows breaks its rule
pub record HasLawfulWindows (image probe : List ℕ) : Type 0 where
  pub vendor : IsFalse (has_no_vendor image)
  pub bridge : layout image ≡ 1
  pub io : IsFalse (breaks_window_rule IoWindow image probe)
  pub memory : IsFalse (breaks_window_rule MemoryWindow image probe)
  pub prefetch : IsFalse (breaks_window_rule PrefetchWindow image probe)

-- an address lies in a window that is there and open
abbrev pub IsInWindow : Option DecodedWindow → ℕ → Type 0
IsInWindow None a = ⊥
IsInWindow (Some w) a = MatchOption w.range ⊥ (λ r. InRange r a)

-- the addresses of each window are those that the bridge's comparators hold
pub record HoldsAsComparators (image probe : List ℕ) (w : Windows) : Type 0 where
  pub io : (a : ℕ) → IsInWindow w.io a ↔ IsTrue (holds IoWindow image probe a)
  pub memory : (a : ℕ) → IsInWindow (Some w.mem) a ↔ IsTrue (holds MemoryWindow image probe a)
  pub prefetch : (a : ℕ) → IsInWindow w.pref a ↔ IsTrue (holds PrefetchWindow image probe a)

-- the fault is there, where a bridge's windows are asked for
abbrev pub IsWindowsFaultIn : List ℕ → List ℕ → ImageFault → Type 0
IsWindowsFaultIn image probe NoVendor = IsTrue (has_no_vendor image)
IsWindowsFaultIn image probe HeaderKind = layout image ≢ 1
IsWindowsFaultIn image probe (WindowMask register) = HasWindowFault image probe register
IsWindowsFaultIn image probe _ = ⊥

-- the fault is of the header, or no window below the one that it names breaks its rule
abbrev pub IsLowestWindowFault : List ℕ → List ℕ → ImageFault → Type 0
IsLowestWindowFault image probe NoVendor = Unit {0}
IsLowestWindowFault image probe HeaderKind = Unit {0}
IsLowestWindowFault image probe (WindowMask register) =
    (kind : WindowKind) → window_register kind < register
    → IsFalse (breaks_window_rule kind image probe)
IsLowestWindowFault image probe _ = ⊥
