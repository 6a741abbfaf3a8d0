use Rattle.std.proofs.Common.{◌-◌, ℕ, List}
use Rattle.pci_dump.specs.State.{IsOver, state_of}
use Rattle.pci_check.specs.SideBySide.{Texts, IsSideBySide}
use Rattle.pci_check.proofs.side_by_side.SideBySide.take_pairs.Given as goal

abbrev pub invariant-loop : goal.invariant-loop
invariant-loop g l = record {
  over_dump : IsOver l.self.listed (g.D.Source.left l.dump);
  over_probe : IsOver l.self.read_back (g.P.Source.left l.probe);
  each : (texts : Texts) (buses : List ℕ)
      → IsSideBySide texts buses (state_of l.initial.self.listed (g.D.Source.left l.initial.dump) (g.D.Source.failures l.initial.dump))
      (state_of l.initial.self.read_back (g.P.Source.left l.initial.probe) (g.P.Source.failures l.initial.probe)) l.initial.self.survey
      → IsSideBySide texts buses (state_of l.self.listed (g.D.Source.left l.dump) (g.D.Source.failures l.dump))
      (state_of l.self.read_back (g.P.Source.left l.probe) (g.P.Source.failures l.probe)) l.self.survey;
}

abbrev pub decreases-loop : goal.decreases-loop
decreases-loop g l = 4096 - l.self.listed.count
