use Rattle.std.proofs.Common.{◌≡◌, ℕ, true}
use Rattle.pci_spec.specs.Bus.{are_siblings}
use Rattle.pci_first_fit.specs.Buses.{listing_value, AreOnBusTo, AreBelow}
use Rattle.pci_first_fit.proofs.bus.add_bus.Given as goal

abbrev pub invariant-loop-function : goal.invariant-loop-function
invariant-loop-function g l =
    (on : ℕ) → are_siblings l.listing.classing.now.admitted.now.roots on l.bus ≡ true
    → AreBelow (listing_value l.listing on) l.bus l.initial.items.items
    → AreOnBusTo (listing_value l.listing on) l.function l.items.items
