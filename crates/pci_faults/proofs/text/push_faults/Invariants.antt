use Rattle.std.proofs.Common.{◌≡◌, ◌++◌, map, take}
use Rattle.std.specs.List.{flat_map}
use Rattle.std.specs.String.{string_bytes}
use Rattle.judge_spec.specs.ToldLine.{fault_line}
use Rattle.pci_faults.specs.AllLines.{any_fault_value}
use Rattle.pci_faults.proofs.text.push_faults.Given as goal

abbrev pub invariant-loop-fault : goal.invariant-loop-fault
invariant-loop-fault g l = string_bytes l.text ≡ string_bytes l.initial.text ++ flat_map fault_line (map any_fault_value (take l.fault-index l.faults))
