use Rattle.std.proofs.Common.{List}
use Rattle.pci_spec.specs.Slot.{Slot}
use Rattle.pci_place.specs.Above.{system_in}
use Rattle.pci_first_fit.specs.Slots.{demand_value}
use Rattle.pci_kept.specs.Flags.{AreFlags}
use Rattle.pci_kept.specs.Known.{asked}
use Rattle.pci_kept.proofs.Collected.{ArePartsTo}
use Rattle.pci_kept.proofs.collect.collect.Given as goal

abbrev pub invariant-loop-function : goal.invariant-loop-function
invariant-loop-function g l =
    (slots : List Slot) → AreFlags slots l.fixed
    → ArePartsTo (asked l.admitted.roots (demand_value l.fn.lists) slots l.anew) (system_in l.admitted) l.function l.regions.items
