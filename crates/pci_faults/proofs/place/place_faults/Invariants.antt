use Rattle.std.proofs.Common.{map, take}
use Rattle.pci_spec.specs.System.{system_of}
use Rattle.pci_function.specs.Fault.{fault_of}
use Rattle.pci_tree.specs.Roots.{buses_of}
use Rattle.pci_faults.specs.Lists.{AreJust}
use Rattle.pci_faults.specs.OwnLines.{IsBeforeAt, IsOwnOf}
use Rattle.pci_faults.specs.Places.{IsPlaceOf}
use Rattle.pci_faults.proofs.place.place_faults.Given as goal

abbrev pub invariant-loop-function : goal.invariant-loop-function
invariant-loop-function g l =
    AreJust (IsBeforeAt (system_of l.dump l.probe)) (IsOwnOf (IsPlaceOf (buses_of l.roots) (system_of l.dump l.probe)) (take l.function-index (system_of l.dump l.probe)))
    (map fault_of l.found.items)
