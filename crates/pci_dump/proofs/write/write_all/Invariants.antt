use Rattle.std.proofs.Common.{◌≡◌, length}
use Rattle.pci_dump.specs.Begun.{AppendsUpTo}
use Rattle.pci_dump.proofs.write.write_all.Given as goal

abbrev pub invariant-loop-rest : goal.invariant-loop-rest
invariant-loop-rest g l = record {
  gone : AppendsUpTo (g.K.Sink.taken l.initial.sink) (g.K.Sink.taken l.sink) l.bytes l.rest;
  fine : g.K.Sink.failures l.sink ≡ g.K.Sink.failures l.initial.sink;
}

abbrev pub decreases-loop-rest : goal.decreases-loop-rest
decreases-loop-rest g l = length l.rest
