-- The spaces as the definitions have them.
use Rattle.std.specs.Prelude.{ℕ, Bool, true, false}
use Rattle.pci_spec.specs.Number.{has_bit}
use Rattle.pci_spec.specs.Window.{WindowKind, IoWindow, MemoryWindow, PrefetchWindow}
use Rattle.pci_spec.specs.System as system
use Rattle.pci_base.specs.declared.space.Space.{Space}
use Rattle.pci_base.specs.declared.space.Space.TheVariants.{Io, Mem}

abbrev pub space_of : Space → system.Space
space_of Io = system.Io
space_of Mem = system.Memory

-- whether a Command register enables a space
abbrev pub is_on : ℕ → system.Space → Bool
is_on command system.Io = has_bit command 0
is_on command system.Memory = has_bit command 1

-- the kind of the accesses of a space, those of a prefetchable BAR or of any other region
abbrev pub kind_in : system.Space → Bool → WindowKind
kind_in system.Io prefetchable = IoWindow
kind_in system.Memory false = MemoryWindow
kind_in system.Memory true = PrefetchWindow

-- whether accesses of a kind are a prefetchable BAR's
abbrev pub is_prefetch : WindowKind → Bool
is_prefetch IoWindow = false
is_prefetch MemoryWindow = false
is_prefetch PrefetchWindow = true
