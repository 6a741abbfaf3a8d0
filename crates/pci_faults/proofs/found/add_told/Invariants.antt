use Rattle.std.proofs.Common.{◌≡◌, ◌++◌, map, take}
use Rattle.pci_function.specs.Fault.{fault_of}
use Rattle.pci_faults.specs.Lists.{present_faults}
use Rattle.pci_faults.proofs.found.add_told.Given as goal

abbrev pub invariant-loop-fault : goal.invariant-loop-fault
invariant-loop-fault g l = map fault_of l.found.items ≡ map fault_of l.fn.found.items ++ present_faults (take l.fault-index l.faults)
