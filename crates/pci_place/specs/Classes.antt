-- The class of a BAR, by what is decoded of it.
use Rattle.std.specs.Prelude.{Bool, true, false, ◌&&◌, nat_le, if◌then◌else◌}
use Rattle.pci_spec.specs.Window.{WindowKind, IoWindow, MemoryWindow, PrefetchWindow}
use Rattle.pci_image.specs.declared.bar.Bar.{Bar}
use Rattle.pci_image.specs.declared.bar.BarKind.{BarKind}
use Rattle.pci_image.specs.declared.bar.BarKind.TheVariants.{Io, Mem32, Mem64}
use Rattle.pci_place.specs.declared.above.Above.{Above}
use Rattle.pci_place.specs.declared.pools.Pools.{Pools}

abbrev pub is_io_kind : BarKind → Bool
is_io_kind Io = true
is_io_kind Mem32 = false
is_io_kind Mem64 = false

abbrev pub is_wide_kind : BarKind → Bool
is_wide_kind Io = false
is_wide_kind Mem32 = false
is_wide_kind Mem64 = true

abbrev pub is_served_by : Bar → Above → Pools → Bool
is_served_by bar above pools =
    if nat_le pools.pref.last 0xffff_ffff then above.pref else is_wide_kind bar.kind && above.wide

abbrev pub bar_class : Bar → Above → Pools → WindowKind
bar_class bar above pools =
    if is_io_kind bar.kind then IoWindow
    else if bar.prefetch && is_served_by bar above pools then PrefetchWindow
    else MemoryWindow
