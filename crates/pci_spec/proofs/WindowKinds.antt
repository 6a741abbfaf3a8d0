-- What is so of each of the three kinds of windows is so of every kind.
use Rattle.pci_spec.specs.Window.{WindowKind, IoWindow, MemoryWindow, PrefetchWindow}

pub each_kind : (P : WindowKind → Type 0) → P IoWindow → P MemoryWindow → P PrefetchWindow → (kind : WindowKind) → P kind
each_kind P io memory prefetch IoWindow = io
each_kind P io memory prefetch MemoryWindow = memory
each_kind P io memory prefetch PrefetchWindow = prefetch
