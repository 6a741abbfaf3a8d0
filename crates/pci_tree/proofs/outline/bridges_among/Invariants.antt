use Rattle.std.proofs.Common.{◌≡◌, take}
use Rattle.std.specs.List.{filter}
use Rattle.pci_tree.specs.Ways.{is_bridging, slots_of}
use Rattle.pci_tree.proofs.outline.bridges_among.Given as goal

abbrev pub invariant-loop-function : goal.invariant-loop-function
invariant-loop-function g l = l.bridges.items ≡ slots_of (filter is_bridging (take l.function-index l.records))
