-- The kinds of windows as those of the definitions, and one value for each.
use Rattle.pci_spec.specs.Window as windows
use Rattle.pci_base.specs.declared.window_kind.WindowKind.{WindowKind}
use Rattle.pci_base.specs.declared.window_kind.WindowKind.TheVariants.{Io, Memory, Prefetchable}
use Rattle.pci_base.specs.declared.window_kind.ByKind.{ByKind}

abbrev pub kind_value : WindowKind → windows.WindowKind
kind_value Io = windows.IoWindow
kind_value Memory = windows.MemoryWindow
kind_value Prefetchable = windows.PrefetchWindow

abbrev pub by_kind : {T : Type 0} → ByKind T → WindowKind → T
by_kind b Io = b.io
by_kind b Memory = b.memory
by_kind b Prefetchable = b.prefetchable
