use Rattle.std.proofs.Common.{ℕ, ◌<◌}
use Rattle.std.specs.List.{Contains}
use Rattle.pci_tree.specs.Roots.{buses_of}
use Rattle.pci_tree.specs.BusNumbers.{IsBehind}
use Rattle.pci_tree.proofs.buses.has_no_root_behind.Given as goal

abbrev pub invariant-loop-bus : goal.invariant-loop-bus
invariant-loop-bus l = (root : ℕ) → root < l.bus → Contains (buses_of l.roots) root → IsBehind l.bridge root → ⊥
