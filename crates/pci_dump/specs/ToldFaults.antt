-- The faults of a text of told ranges, as the definitions have them.
use Rattle.std.specs.Prelude.{◌≡◌, ℕ, List}
use Rattle.pci_spec.specs.Text.{BadSlot, BadTitle, BadLine, NoBlank, Order, TooMany, Ended}
use Rattle.judge_spec.specs.ToldStops.{IsToldFaultOf}
use Rattle.judge_spec.specs.ToldForm.{Reads, Stopped}
use Rattle.pci_dump.specs.declared.read_fault.ReadFault.{ReadFault}
use Rattle.pci_dump.specs.declared.read_fault.ReadFault.TheVariants as faults

-- it is the fault of this text, and so not of a reader or of memory
abbrev pub IsToldTextFault : List ℕ → ReadFault → Type 0
IsToldTextFault bytes faults.Io = ⊥
IsToldTextFault bytes faults.Memory = ⊥
IsToldTextFault bytes (faults.BadSlot n) = IsToldFaultOf bytes (BadSlot n)
IsToldTextFault bytes (faults.BadTitle n) = IsToldFaultOf bytes (BadTitle n)
IsToldTextFault bytes (faults.BadLine n) = IsToldFaultOf bytes (BadLine n)
IsToldTextFault bytes (faults.NoBlank n) = IsToldFaultOf bytes (NoBlank n)
IsToldTextFault bytes (faults.Order n) = IsToldFaultOf bytes (Order n)
IsToldTextFault bytes (faults.TooMany n) = IsToldFaultOf bytes (TooMany n)
IsToldTextFault bytes (faults.Ended n) = IsToldFaultOf bytes (Ended n)

-- reading stops with this fault; a growth may be refused at any byte
abbrev pub StopsWith : Reads → ReadFault → Type 0
StopsWith reads faults.Io = ⊥
StopsWith reads faults.Memory = Unit {0}
StopsWith reads (faults.BadSlot n) = reads ≡ Stopped (BadSlot n)
StopsWith reads (faults.BadTitle n) = reads ≡ Stopped (BadTitle n)
StopsWith reads (faults.BadLine n) = reads ≡ Stopped (BadLine n)
StopsWith reads (faults.NoBlank n) = reads ≡ Stopped (NoBlank n)
StopsWith reads (faults.Order n) = reads ≡ Stopped (Order n)
StopsWith reads (faults.TooMany n) = reads ≡ Stopped (TooMany n)
StopsWith reads (faults.Ended n) = reads ≡ Stopped (Ended n)
