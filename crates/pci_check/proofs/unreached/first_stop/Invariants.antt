use Rattle.std.proofs.Common.{ℕ, ◌<◌}
use Rattle.pci_base.specs.Space.{space_of}
use Rattle.pci_check.specs.Stops.{IsWholeBehind}
use Rattle.pci_check.proofs.unreached.first_stop.Given as goal

abbrev pub invariant-loop-i : goal.invariant-loop-i
invariant-loop-i g l = (k : ℕ) → k < l.i → IsWholeBehind l.reached (space_of l.space) l.path l.end l.region k
