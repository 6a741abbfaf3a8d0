use Rattle.std.proofs.Common.{◌≡◌, map, take}
use Rattle.judge_spec.specs.ToldFault.{NotListed}
use Rattle.pci_faults.specs.AllLines.{any_fault_value}
use Rattle.pci_faults.proofs.every.all_not_listed.Given as goal

abbrev pub invariant-loop-slot : goal.invariant-loop-slot
invariant-loop-slot g l = map any_fault_value l.faults.items ≡ map NotListed (take l.slot-index l.slots)
