use Rattle.std.proofs.Common.{◌-◌}
use Rattle.pci_dump.specs.State.{IsOver, state_of}
use Rattle.pci_check.proofs.Beside.{IsReadOn}
use Rattle.pci_check.proofs.side_by_side.read_out.Given as goal

abbrev pub invariant-loop-fault : goal.invariant-loop-fault
invariant-loop-fault g l = record {
  on : IsReadOn (state_of l.initial.ahead (g.S.Source.left l.initial.source) (g.S.Source.failures l.initial.source)) (state_of l.ahead (g.S.Source.left l.source) (g.S.Source.failures l.source));
  over : IsOver l.ahead (g.S.Source.left l.source);
}

abbrev pub decreases-loop-fault : goal.decreases-loop-fault
decreases-loop-fault g l = 4096 - l.ahead.count
