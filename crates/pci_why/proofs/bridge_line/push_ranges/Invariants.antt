use Rattle.std.proofs.Common.{◌≡◌, ◌++◌, map, take}
use Rattle.std.specs.List.{flat_map}
use Rattle.std.specs.String.{string_bytes}
use Rattle.pci_spec.specs.Why.{range_line}
use Rattle.pci_base.specs.Ranges.{decoded_range_of}
use Rattle.pci_base.specs.Space.{space_of}
use Rattle.pci_why.proofs.bridge_line.push_ranges.Given as goal

abbrev pub invariant-loop-range : goal.invariant-loop-range
invariant-loop-range g l = string_bytes l.text ≡ string_bytes l.initial.text ++ flat_map (range_line l.word (space_of l.space)) (map decoded_range_of (take l.range-index l.ranges))
