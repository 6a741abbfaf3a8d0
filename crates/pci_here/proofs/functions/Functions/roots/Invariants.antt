use Rattle.std.proofs.Common.{◌≡◌}
use Rattle.pci_here.proofs.Roots.{set_below}
use Rattle.pci_here.proofs.functions.Functions.roots.Given as goal

abbrev pub invariant-loop-bus : goal.invariant-loop-bus
invariant-loop-bus l = l.buses.items ≡ set_below l.self.is_root l.bus
