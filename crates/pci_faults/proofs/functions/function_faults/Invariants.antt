use Rattle.std.proofs.Common.{map, take}
use Rattle.pci_spec.specs.System.{system_of}
use Rattle.pci_function.specs.Fault.{fault_of}
use Rattle.pci_faults.specs.Lists.{AreJust}
use Rattle.pci_faults.specs.OwnLines.{IsBeforeAt, IsOwnLine, IsOwnOf}
use Rattle.pci_faults.specs.Phases.{own_phase_number}
use Rattle.pci_faults.proofs.functions.function_faults.Given as goal

abbrev pub invariant-loop-i : goal.invariant-loop-i
invariant-loop-i g l =
    AreJust (IsBeforeAt (system_of l.dump l.probe)) (IsOwnOf (IsOwnLine (own_phase_number l.phase)) (take l.i (system_of l.dump l.probe))) (map fault_of l.found.items)
