use Rattle.std.proofs.Common.{map}
use Rattle.pci_base.specs.Ranges.{decoded_range_of}
use Rattle.pci_first_fit.proofs.Cursors.{IsPlacing}
use Rattle.pci_first_fit.proofs.placing.place_all.Given as goal

abbrev pub invariant-loop-index : goal.invariant-loop-index
invariant-loop-index g l =
    IsPlacing (map (λ list. list.items) l.lists) (map (λ list. list.items) l.within.behind.now) (map decoded_range_of l.initial.taken.items) l.wanted l.taken.items l.places l.cursors l.index
