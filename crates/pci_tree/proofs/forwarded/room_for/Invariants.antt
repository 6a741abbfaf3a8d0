use Rattle.std.proofs.Common.{◌≡◌, ◌-◌, ◌^◌, take, length, min}
use Rattle.std.specs.List.{filter, flat_map}
use Rattle.pci_tree.specs.Passing.{has_common, ranges_of}
use Rattle.pci_tree.proofs.forwarded.room_for.Given as goal

abbrev pub invariant-loop-r : goal.invariant-loop-r
invariant-loop-r l = l.room ≡ min (length (flat_map (λ r. filter (has_common r) (ranges_of l.forwarded)) (take l.r-index l.rs))) (2 ^ 64 - 1)
