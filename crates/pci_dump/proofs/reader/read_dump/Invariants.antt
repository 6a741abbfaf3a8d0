use Rattle.std.proofs.Common.{◌-◌}
use Rattle.pci_dump.specs.State.{IsOver, state_of, IsRead}
use Rattle.pci_dump.proofs.reader.read_dump.Given as goal

abbrev pub invariant-loop-dump : goal.invariant-loop-dump
invariant-loop-dump g l = record {
  read : IsRead (g.S.Source.left l.initial.source) (g.S.Source.failures l.initial.source) (state_of l.ahead (g.S.Source.left l.source) (g.S.Source.failures l.source)) l.dump;
  over : IsOver l.ahead (g.S.Source.left l.source);
}

abbrev pub decreases-loop-dump : goal.decreases-loop-dump
decreases-loop-dump g l = 4096 - l.ahead.count
