-- A text's faults: their numbers, how they are said, and what it means that a text has one.
use Rattle.std.specs.Prelude.{ℕ, List, ◌++◌, codes}
use Rattle.std.specs.Fmt.{decimal}
use Rattle.pci_spec.specs.Text.{IsFaultOf, BadSlot, BadTitle, BadLine, NoBlank, Order, TooMany, Ended}
use Rattle.pci_dump.specs.declared.read_fault.ReadFault.{ReadFault}
use Rattle.pci_dump.specs.declared.read_fault.ReadFault.TheVariants as faults

abbrev pub read_fault_number : ReadFault → ℕ
read_fault_number faults.Io = 1
read_fault_number faults.Memory = 2
read_fault_number (faults.BadSlot n) = 3
read_fault_number (faults.BadTitle n) = 4
read_fault_number (faults.BadLine n) = 5
read_fault_number (faults.NoBlank n) = 6
read_fault_number (faults.Order n) = 7
read_fault_number (faults.TooMany n) = 8
read_fault_number (faults.Ended n) = 9

-- how a fault is said: its number, its name and its line
abbrev pub read_fault_text : ReadFault → List ℕ
read_fault_text faults.Io = codes "1 Io"
read_fault_text faults.Memory = codes "2 Memory"
read_fault_text (faults.BadSlot n) = codes "3 BadSlot " ++ decimal n
read_fault_text (faults.BadTitle n) = codes "4 BadTitle " ++ decimal n
read_fault_text (faults.BadLine n) = codes "5 BadLine " ++ decimal n
read_fault_text (faults.NoBlank n) = codes "6 NoBlank " ++ decimal n
read_fault_text (faults.Order n) = codes "7 Order " ++ decimal n
read_fault_text (faults.TooMany n) = codes "8 TooMany " ++ decimal n
read_fault_text (faults.Ended n) = codes "9 Ended " ++ decimal n

-- it is the fault of this text, and so not of a reader or of memory
abbrev pub IsTextFault : List ℕ → ReadFault → Type 0
IsTextFault bytes faults.Io = ⊥
IsTextFault bytes faults.Memory = ⊥
IsTextFault bytes (faults.BadSlot n) = IsFaultOf bytes (BadSlot n)
IsTextFault bytes (faults.BadTitle n) = IsFaultOf bytes (BadTitle n)
IsTextFault bytes (faults.BadLine n) = IsFaultOf bytes (BadLine n)
IsTextFault bytes (faults.NoBlank n) = IsFaultOf bytes (NoBlank n)
IsTextFault bytes (faults.Order n) = IsFaultOf bytes (Order n)
IsTextFault bytes (faults.TooMany n) = IsFaultOf bytes (TooMany n)
IsTextFault bytes (faults.Ended n) = IsFaultOf bytes (Ended n)
