use Rattle.std.proofs.Common.{ℕ, ◌<◌}
use Rattle.pci_check.specs.Stops.{AreHomeInEach}
use Rattle.pci_faults.proofs.unreached_lines.are_home.Given as goal

abbrev pub invariant-loop-bus : goal.invariant-loop-bus
invariant-loop-bus g l = (b : ℕ) → b < l.bus → AreHomeInEach l.outline b
