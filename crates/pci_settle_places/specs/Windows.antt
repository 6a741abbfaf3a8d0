-- The windows over a bus: each where it stays, or at its new place; no place is looked for in one that grows.
use Rattle.std.specs.Prelude.{if◌then◌else◌, List, [], ◌∷◌, Option, None, Some}
use Rattle.std.specs.Option.{option_map}
use Rattle.pci_spec.specs.Window.{WindowKind, IoWindow, MemoryWindow, PrefetchWindow}
use Rattle.pci_spec.specs.Decoded.{Range as DecodedRange}
use Rattle.pci_spec.specs.System.{Space, Io, Memory, Window}
use Rattle.pci_base.specs.declared.range.Range.{Range}
use Rattle.pci_base.specs.declared.window_kind.ByKind.{ByKind}
use Rattle.pci_base.specs.Ranges.{decoded_range_of}
use Rattle.pci_image.specs.Windows.{window_of}
use Rattle.pci_function.specs.declared.record.Bridge.{Bridge}
use Rattle.pci_tree.specs.Passes as passes
use Rattle.pci_first_fit.specs.declared.kept.Kept.{Kept}
use Rattle.pci_first_fit.specs.Kept.{kept_of}
use Rattle.pci_first_fit.specs.Keeping.{told_of_kind}
use Rattle.pci_settle_places.specs.declared.places.Places.{Places}
use Rattle.pci_settle_places.specs.Places.{place_range_in}

-- where a window grows the places in it are told
abbrev pub unless_grown : Option Range → Option DecodedRange → Option DecodedRange
unless_grown None range = range
unless_grown (Some grown) range = None

-- the addresses in a bridge's window in which places are looked for: those that it keeps, or those that it gets
abbrev pub window_range_at : Kept → ByKind (Option Range) → Bridge → Places → WindowKind → Option DecodedRange
window_range_at kept grown b p c =
    if kept_of kept (Window c)
    then unless_grown (told_of_kind grown c) (passes.range_in (window_of b.windows c))
    else option_map decoded_range_of (place_range_in p (Window c))

-- of windows by class, that of what is plain in a space
abbrev pub plain_of : Space → (WindowKind → Option DecodedRange) → Option DecodedRange
plain_of Io windows = windows IoWindow
plain_of Memory windows = windows MemoryWindow

-- and that of what is prefetchable
abbrev pub prefetch_of : Space → (WindowKind → Option DecodedRange) → Option DecodedRange
prefetch_of Io windows = None
prefetch_of Memory windows = windows PrefetchWindow

abbrev pub range_alone : Option DecodedRange → List DecodedRange
range_alone None = []
range_alone (Some r) = r ∷ []
