use Rattle.std.proofs.Common.{◌<◌, ◌^◌}
use Rattle.std.specs.List.{AllWithin}
use Rattle.pci_settle.proofs.settle.end_in_64_bits.Given as goal

abbrev pub invariant-loop-i : goal.invariant-loop-i
invariant-loop-i l = AllWithin (λ r. r.range.last < 2 ^ 64) l.list 0 l.i
