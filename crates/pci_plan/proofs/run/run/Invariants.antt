use Rattle.std.proofs.Common.{map, drop}
use Rattle.pci_plan.specs.Comparing.{moment}
use Rattle.pci_plan.specs.Writes.{write_value}
use Rattle.pci_plan.specs.Steps.{steps_of}
use Rattle.pci_plan.specs.Going.{AreRun}
use Rattle.pci_plan.proofs.Runs.{LeadTo}
use Rattle.pci_plan.proofs.run.run.Given as goal

abbrev pub invariant-loop-n : goal.invariant-loop-n
invariant-loop-n g l =
    let cs = map write_value l.compares in
    let ws = map write_value l.writes in
    LeadTo (AreRun (moment (g.P.ConfigPort.targets l.initial.port) (g.P.ConfigPort.failures l.initial.port)) cs ws) (drop l.n (steps_of cs ws)) (moment (g.P.ConfigPort.targets l.port) (g.P.ConfigPort.failures l.port))
