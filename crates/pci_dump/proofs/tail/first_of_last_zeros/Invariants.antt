use Rattle.std.proofs.Common.{◌-◌}
use Rattle.pci_dump.specs.LastZeros.{HasZeros}
use Rattle.pci_dump.proofs.tail.first_of_last_zeros.Given as goal

abbrev pub invariant-loop-count : goal.invariant-loop-count
invariant-loop-count l = HasZeros l.bytes (16 - l.count) l.count
