-- What registers show of places, by what is decoded of a function.
use Rattle.std.specs.Prelude.{◌≡◌, ℕ, ◌+◌, ◌<◌, ◌%◌, ◌^◌, Bool, false, if◌then◌else◌, List, Option, None, Some}
use Rattle.std.specs.Option.{is_some}
use Rattle.pci_spec.specs.Header.{bar_register}
use Rattle.pci_spec.specs.Bar.{first_bit}
use Rattle.pci_spec.specs.Window.{WindowKind, bounds_for, closed_bounds}
use Rattle.pci_spec.specs.Decoded.{DecodedWindow, Range as DecodedRange}
use Rattle.judge_spec.specs.Windows.{with_number, with_bounds}
use Rattle.settle_spec.specs.Keeping.Registers.{is_same_range}
use Rattle.pci_base.specs.declared.range.Range.{Range}
use Rattle.pci_base.specs.Ranges.{decoded_range_of}
use Rattle.pci_image.specs.declared.bar.Bar.{Bar}
use Rattle.pci_image.specs.Bars.{decoded_kind_of}
use Rattle.pci_place.specs.Classes.{is_wide_kind}

-- a BAR at a Base Address register
abbrev pub HasRegister : Bar → Type 0
HasRegister bar = (n : ℕ) × (n < 6) × (bar.reg ≡ bar_register n)

-- a BAR at its place, over the encoding that stood in its register
abbrev pub with_bar : ℕ → Bar → Range → List ℕ → List ℕ
with_bar old bar place image =
    with_number (if is_wide_kind bar.kind then 8 else 4) bar.reg
    (place.first + old % 2 ^ first_bit (decoded_kind_of bar.kind)) image

-- a ROM at its place, with the enable bit that stood in its register
abbrev pub with_rom : ℕ → ℕ → Range → List ℕ → List ℕ
with_rom old register place image = with_number 4 register (place.first + old % 2) image

abbrev pub nibble : Bool → ℕ
nibble wide = if wide then 1 else 0

-- a window that was open is closed
abbrev pub with_closed : WindowKind → DecodedWindow → List ℕ → List ℕ
with_closed c w image =
    if is_some w.range then with_bounds c (closed_bounds c (nibble w.wide)) image else image

-- whether a window has these addresses
abbrev pub window_has_range : Option DecodedRange → Range → Bool
window_has_range None r = false
window_has_range (Some own) r = is_same_range (decoded_range_of r) own

abbrev pub with_window_range : WindowKind → DecodedWindow → Range → List ℕ → List ℕ
with_window_range c w r image = with_bounds c (bounds_for c (nibble w.wide) r.first r.last) image

-- a window that stays has the addresses to which it grows; where it has them, or doesn't grow, all bits stay
abbrev pub with_grown : WindowKind → DecodedWindow → Option Range → List ℕ → List ℕ
with_grown c w None image = image
with_grown c w (Some r) image = if window_has_range w.range r then image else with_window_range c w r image

-- a window at its place; one that has none stays or is closed
abbrev pub with_window_placed : WindowKind → Bool → Option Range → DecodedWindow → Option Range → List ℕ → List ℕ
with_window_placed c kept grown w None image =
    if kept then with_grown c w grown image else with_closed c w image
with_window_placed c kept grown w (Some place) image = with_window_range c w place image

-- one that may not be there
abbrev pub with_optional : WindowKind → Bool → Option Range → Option DecodedWindow → Option Range → List ℕ → List ℕ
with_optional c kept grown None place image = image
with_optional c kept grown (Some w) place image = with_window_placed c kept grown w place image

-- a window in which room is kept free shows that, whatever its place
abbrev pub with_room : WindowKind → Option Range → DecodedWindow → List ℕ → List ℕ
with_room c None w image = image
with_room c (Some r) w image = with_window_range c w r image

-- one that may not be there
abbrev pub with_wished : WindowKind → Option Range → Option DecodedWindow → List ℕ → List ℕ
with_wished c wished None image = image
with_wished c wished (Some w) image = with_room c wished w image
