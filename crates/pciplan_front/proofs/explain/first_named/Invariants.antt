use Rattle.std.proofs.Common.{◌≡◌, find}
use Rattle.std.specs.Array.Iter.{array_into_iter_items}
use Rattle.pciplan_front.specs.Explained.{names_fault}
use Rattle.pciplan_front.proofs.explain.first_named.Given as goal

abbrev pub invariant-loop-fault : goal.invariant-loop-fault
invariant-loop-fault l = find (names_fault l.word) (array_into_iter_items l.fault-iterator) ≡ find (names_fault l.word) l.fn.faults
