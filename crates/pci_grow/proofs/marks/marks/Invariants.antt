use Rattle.std.proofs.Common.{◌≡◌, map, take}
use Rattle.pci_grow.specs.Marks.{marks_of}
use Rattle.pci_grow.proofs.marks.marks.Given as goal

abbrev pub invariant-loop-ranges : goal.invariant-loop-ranges
invariant-loop-ranges g l = l.marks.items ≡ take l.ranges-index (map marks_of l.table)
