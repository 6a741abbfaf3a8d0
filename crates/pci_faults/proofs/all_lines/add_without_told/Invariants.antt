use Rattle.std.proofs.Common.{◌≡◌, ◌++◌, map, take}
use Rattle.pci_faults.specs.AllLines.{any_fault_value, plain_fault}
use Rattle.pci_faults.proofs.all_lines.add_without_told.Given as goal

abbrev pub invariant-loop-fault : goal.invariant-loop-fault
invariant-loop-fault g l = map any_fault_value l.faults.items ≡ map any_fault_value l.fn.faults.items ++ map plain_fault (take l.fault-index l.known)
