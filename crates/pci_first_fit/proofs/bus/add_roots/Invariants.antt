use Rattle.std.proofs.Common.{◌≡◌, ℕ, true}
use Rattle.pci_spec.specs.Bus.{is_root}
use Rattle.pci_first_fit.specs.Buses.{listing_value, AreBelow}
use Rattle.pci_first_fit.proofs.bus.add_roots.Given as goal

abbrev pub invariant-loop-bus : goal.invariant-loop-bus
invariant-loop-bus g l =
    (on : ℕ) → is_root l.listing.classing.now.admitted.now.roots on ≡ true
    → AreBelow (listing_value l.listing on) 0 l.initial.items.items
    → AreBelow (listing_value l.listing on) l.bus l.items.items
