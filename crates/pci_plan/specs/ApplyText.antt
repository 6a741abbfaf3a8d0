-- How a fault of putting a plan onto a machine is numbered and printed.
use Rattle.std.specs.Prelude.{ℕ, List, ◌++◌, codes}
use Rattle.std.specs.Fmt.{decimal}
use Rattle.pci_spec.specs.Line.{two_digits, field, region_field}
use Rattle.pci_plan.specs.declared.apply_fault.ApplyFault.{ApplyFault}
use Rattle.pci_plan.specs.declared.apply_fault.ApplyFault.TheVariants.{Changed, Port, Stuck}

abbrev pub apply_fault_number : ApplyFault → ℕ
apply_fault_number (Changed slot offset) = 80
apply_fault_number (Port done) = 81
apply_fault_number (Stuck done) = 82

-- its name, and a register or how many writes were made
abbrev pub apply_fault_words : ApplyFault → List ℕ
apply_fault_words (Changed slot offset) = codes "Changed" ++ region_field slot offset
apply_fault_words (Port done) = codes "Port" ++ field (decimal done)
apply_fault_words (Stuck done) = codes "Stuck" ++ field (decimal done)

abbrev pub apply_fault_text : ApplyFault → List ℕ
apply_fault_text fault = two_digits (apply_fault_number fault) ++ field (apply_fault_words fault)
