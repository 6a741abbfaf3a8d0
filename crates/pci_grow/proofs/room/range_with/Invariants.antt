use Rattle.std.proofs.Common.{◌≡◌, drop}
use Rattle.std.specs.List.{find}
use Rattle.settle_spec.specs.Parts.{lies_within}
use Rattle.pci_base.specs.Ranges.{decoded_range_of}
use Rattle.pci_grow.specs.Rooms.{had_ranges}
use Rattle.pci_grow.proofs.room.range_with.Given as goal

abbrev pub invariant-loop-one : goal.invariant-loop-one
invariant-loop-one l =
    find (lies_within (decoded_range_of l.range)) (had_ranges l.bus l.list)
    ≡ find (lies_within (decoded_range_of l.range)) (had_ranges l.bus (drop l.one-index l.list))
