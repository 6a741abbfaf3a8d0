use Rattle.std.proofs.Common.{◌-◌}
use Rattle.pci_dump.specs.ToldPlaces.{field_of}
use Rattle.pci_dump.proofs.ToldAddresses.{AreDigitsTaken}
use Rattle.pci_dump.proofs.told_line.Line.take_more_digits.Given as goal

abbrev pub invariant-loop-read : goal.invariant-loop-read
invariant-loop-read l = AreDigitsTaken l.fn.self (field_of l.field) l.fn.read l.read l.number l.count l.bytes

abbrev pub decreases-loop-read : goal.decreases-loop-read
decreases-loop-read l = l.most - l.read
