-- The ranges of bridges lie inside those above them, and apart from those beside them.
use Rattle.pci_number.proofs.Listed.{listed_is_nested, listed_has_no_bus_fault, roomy_is_nested, roomy_has_no_bus_fault}
use Rattle.pci_number.proofs.numbering_laws.listed_functions_nest.Goals as goal

pub returns : goal.returns
returns c = record { nested = listed_is_nested; no_fault = listed_has_no_bus_fault; roomy = roomy_is_nested; no_roomy_fault = roomy_has_no_bus_fault }
