-- What is so of each value is so of the one of a kind.
use Rattle.pci_base.specs.declared.window_kind.WindowKind.{WindowKind}
use Rattle.pci_base.specs.declared.window_kind.WindowKind.TheVariants.{Io, Memory, Prefetchable}
use Rattle.pci_base.specs.declared.window_kind.ByKind.{ByKind}
use Rattle.pci_base.specs.WindowKinds.{by_kind}

pub each_by_kind : {T : Type 0} (P : T → Type 0) (b : ByKind T) (kind : WindowKind) → P b.io → P b.memory → P b.prefetchable → P (by_kind b kind)
each_by_kind P b Io io memory prefetch = io
each_by_kind P b Memory io memory prefetch = memory
each_by_kind P b Prefetchable io memory prefetch = prefetch
