use Rattle.std.proofs.Common.{map, ◌≡◌}
use Rattle.pci_plan.specs.Writes.{write_value}
use Rattle.pci_plan.specs.Making.{AreWritesMade}
use Rattle.pci_plan.proofs.make.make.Given as goal

abbrev pub invariant-loop-done : goal.invariant-loop-done
invariant-loop-done g l = record {
  made : AreWritesMade (g.P.ConfigPort.targets l.initial.port) (map write_value l.writes) l.done (g.P.ConfigPort.targets l.port);
  failures : g.P.ConfigPort.failures l.port ≡ g.P.ConfigPort.failures l.initial.port;
}
