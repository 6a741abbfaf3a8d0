-- The windows of a bridge, each as the one that it shows (Bridge 1.2, 3.2.5).
use Rattle.std.specs.Prelude.{ℕ, zero, suc, ◌+◌, ◌/◌, ◌%◌, ◌&&◌, if◌then◌else◌, List, set, Option, None, Some}
use Rattle.pci_spec.specs.Registers.{IO_BASE, IO_LIMIT, IO_BASE_UPPER, IO_LIMIT_UPPER, MEMORY_BASE, MEMORY_LIMIT, PREFETCHABLE_BASE, PREFETCHABLE_LIMIT, PREFETCHABLE_BASE_UPPER, PREFETCHABLE_LIMIT_UPPER}
use Rattle.pci_spec.specs.Window.{WindowKind, IoWindow, MemoryWindow, PrefetchWindow, Bounds, bounds_at, breaks_window_rule, closed_bounds, is_optional, is_window_value, is_zero}
use Rattle.pci_spec.specs.Derived.{bounds_of_nibble}
use Rattle.pci_spec.specs.System.{Function}

-- `width` bytes of a number from an offset on
abbrev pub with_number : ℕ → ℕ → ℕ → List ℕ → List ℕ
with_number zero offset value image = image
with_number (suc width) offset value image =
    with_number width (offset + 1) (value / 256) (set image offset (value % 256))

-- the registers of a window
abbrev pub with_bounds : WindowKind → Bounds → List ℕ → List ℕ
with_bounds IoWindow b image =
    with_number 2 IO_LIMIT_UPPER b.limit_upper (with_number 2 IO_BASE_UPPER b.base_upper
    (with_number 1 IO_LIMIT b.limit (with_number 1 IO_BASE b.base image)))
with_bounds MemoryWindow b image =
    with_number 2 MEMORY_LIMIT b.limit (with_number 2 MEMORY_BASE b.base image)
with_bounds PrefetchWindow b image =
    with_number 4 PREFETCHABLE_LIMIT_UPPER b.limit_upper
    (with_number 4 PREFETCHABLE_BASE_UPPER b.base_upper
    (with_number 2 PREFETCHABLE_LIMIT b.limit (with_number 2 PREFETCHABLE_BASE b.base image)))

-- the low nibble of base and limit, where what a window shows goes with one: 0 without upper halves, 1 with them
abbrev pub shown_nibble : WindowKind → Bounds → Option ℕ
shown_nibble kind shown =
    if is_window_value 0 shown then Some 0
    else if is_optional kind && is_window_value 1 shown then Some 1
    else None

-- what the registers of a window show: one that shows 0 and reads back 0 is closed
abbrev pub image_with_window : WindowKind → ℕ → Function → List ℕ
image_with_window kind n f =
    if is_zero (bounds_at kind f.image) && is_zero (bounds_at kind f.probe)
    then with_bounds kind (closed_bounds kind n) f.image else f.image

-- a bridge whose window reads back what one with this nibble does, if there is one
abbrev pub with_nibble : WindowKind → Option ℕ → Function → Function
with_nibble kind None f = f
with_nibble kind (Some n) f = record {
  slot = f.slot;
  image = image_with_window kind n f;
  probe = with_bounds kind (bounds_of_nibble kind n) f.probe;
}

-- a bridge whose window has a 26 no more, where it shows one
abbrev pub window_as_shown : WindowKind → Function → Function
window_as_shown kind f =
    if breaks_window_rule kind f.image f.probe
    then with_nibble kind (shown_nibble kind (bounds_at kind f.image)) f else f

abbrev pub windows_as_shown : Function → Function
windows_as_shown f =
    window_as_shown PrefetchWindow
    (window_as_shown MemoryWindow (window_as_shown IoWindow f))
