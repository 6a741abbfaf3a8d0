-- A window's addresses, and whether it is open, by its bounds.
use Rattle.std.proofs.Common.{◌+◌, ◌-◌, ◌*◌, ◌/◌, Bool}
use Rattle.std.specs.Bool.{nat_le}
use Rattle.pci_spec.specs.Window.{WindowKind, Bounds, lower_pages, page_size}
use Rattle.pci_spec.specs.Decoded.{Range}

-- a window's addresses, by its bounds
abbrev pub range_by : WindowKind → Bounds → Range
range_by kind b = record {
  first = (b.base_upper * lower_pages kind + b.base / 16) * page_size kind;
  last = (b.limit_upper * lower_pages kind + b.limit / 16) * page_size kind + (page_size kind - 1);
}

abbrev pub opens_by : WindowKind → Bounds → Bool
opens_by kind b = nat_le (b.base_upper * lower_pages kind + b.base / 16) (b.limit_upper * lower_pages kind + b.limit / 16)
