-- The registers of windows as those of the definitions.
use Rattle.std.specs.Prelude.{ℕ, ◌+◌, ◌-◌, ◌*◌, ◌/◌, nat_le, Option, None, Some, if◌then◌else◌}
use Rattle.pci_spec.specs.Window.{WindowKind, Bounds as SpecBounds, lower_pages, page_size}
use Rattle.pci_spec.specs.Decoded.{Range}
use Rattle.pci_base.specs.declared.window_kind.WindowKind.{WindowKind as CodeKind}
use Rattle.pci_base.specs.declared.window_kind.WindowKind.TheVariants.{Io, Memory, Prefetchable}
use Rattle.pci_base.specs.declared.bounds.Bounds.{Bounds}

-- its registers as the definitions have them
abbrev pub spec_bounds_of : Bounds → SpecBounds
spec_bounds_of b =
    record
    { base = b.base; limit = b.limit; base_upper = b.base_upper; limit_upper = b.limit_upper }

-- the number of a page, by its upper and lower part
abbrev pub page_of : WindowKind → ℕ → ℕ → ℕ
page_of kind upper lower = upper * lower_pages kind + lower / 16

-- the addresses from one page to another
abbrev pub range_between : WindowKind → ℕ → ℕ → Option Range
range_between kind base limit =
    if nat_le base limit
    then Some record
    { first = base * page_size kind; last = limit * page_size kind + (page_size kind - 1) }
    else None

-- how many bits the addresses that a plan gives a window have at most
abbrev pub address_bits : CodeKind → ℕ
address_bits Io = 16
address_bits Memory = 32
address_bits Prefetchable = 64
