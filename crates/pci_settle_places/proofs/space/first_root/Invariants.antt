use Rattle.std.proofs.Common.{◌≡◌, ◌<◌, ℕ, false}
use Rattle.pci_spec.specs.Bus.{is_root}
use Rattle.pci_tree.specs.Roots.{buses_of}
use Rattle.pci_settle_places.proofs.space.first_root.Given as goal

abbrev pub invariant-loop-bus : goal.invariant-loop-bus
invariant-loop-bus l = (bus : ℕ) → bus < l.bus → is_root (buses_of l.roots) bus ≡ false
