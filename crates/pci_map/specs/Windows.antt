-- The windows of a bridge, and what it takes as no region of its bus claims it.
use Rattle.std.specs.Prelude.{Option}
use Rattle.pci_map.specs.declared.left.Judged.{Judged}
use Rattle.pci_map.specs.Addresses.{SpaceRanges}

pub record BridgeWindows : Type 0 where
  pub io : Option Judged
  pub memory : Option Judged
  pub prefetchable : Option Judged
  pub takes : SpaceRanges
