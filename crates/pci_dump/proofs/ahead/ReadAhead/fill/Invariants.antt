use Rattle.std.proofs.Common.{◌≡◌, ◌-◌, length, cond}
use Rattle.pci_dump.specs.Fill.{Moves}
use Rattle.pci_dump.proofs.ahead.ReadAhead.fill.Given as goal

abbrev pub invariant-loop-self : goal.invariant-loop-self
invariant-loop-self g l = record {
  moved : Moves l.initial.self l.self (g.S.Source.left l.initial.source) (g.S.Source.left l.source);
  fine : g.S.Source.failures l.source ≡ g.S.Source.failures l.initial.source;
}

abbrev pub decreases-loop-self : goal.decreases-loop-self
decreases-loop-self g l = cond l.self.drained 0 (1043 - length l.self.held)
