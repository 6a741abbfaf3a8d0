use Rattle.std.proofs.Common.{ℕ, ◌<◌}
use Rattle.pci_check.specs.Stops.{AreHomeInEach}
use Rattle.pci_check.proofs.Clashing.{IsAnswerBelow}
use Rattle.pci_check.proofs.judge.first_on_buses.Given as goal

abbrev pub invariant-loop-bus : goal.invariant-loop-bus
invariant-loop-bus g l = record {
  home : (b : ℕ) → b < l.bus → AreHomeInEach l.outline b;
  clash : IsAnswerBelow l.outline l.bus l.clash;
}
