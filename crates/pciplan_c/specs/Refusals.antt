-- Why two texts and a list of root buses are refused, and how that is said.
use Rattle.std.specs.Prelude.{ℕ, List, ◌++◌, codes}
use Rattle.pci_spec.specs.Text.{Block, IsTextOf}
use Rattle.pci_dump.specs.ReadFault.{IsTextFault, read_fault_text}
use Rattle.pci_dump.specs.declared.read_fault.ReadFault.{ReadFault}
use Rattle.pci_dump.specs.declared.read_fault.ReadFault.TheVariants as faults
use Rattle.pci_tree.specs.Roots.{IsRootList}
use Rattle.pciplan_c.specs.declared.refusal.Refusal.{Refusal}
use Rattle.pciplan_c.specs.declared.refusal.Refusal.TheVariants.{Root, Dump, Probe}

-- the line that a fault of a text names, or 0 where it names none
abbrev pub read_fault_line : ReadFault → ℕ
read_fault_line faults.Io = 0
read_fault_line faults.Memory = 0
read_fault_line (faults.BadSlot n) = n
read_fault_line (faults.BadTitle n) = n
read_fault_line (faults.BadLine n) = n
read_fault_line (faults.NoBlank n) = n
read_fault_line (faults.Order n) = n
read_fault_line (faults.TooMany n) = n
read_fault_line (faults.Ended n) = n

-- the line that a refusal names
abbrev pub refusal_line : Refusal → ℕ
refusal_line Root = 0
refusal_line (Dump fault) = read_fault_line fault
refusal_line (Probe fault) = read_fault_line fault

-- the message of a refusal
abbrev pub refusal_text : Refusal → List ℕ
refusal_text Root = codes "root"
refusal_text (Dump fault) = codes "dump: " ++ read_fault_text fault
refusal_text (Probe fault) = codes "probe: " ++ read_fault_text fault

-- the buses are no list of roots; else the dump has the fault; else the probe has it
abbrev pub IsHeldRefusal : List ℕ → List ℕ → List ℕ → Refusal → Type 0
IsHeldRefusal roots dump probe Root = IsRootList roots → ⊥
IsHeldRefusal roots dump probe (Dump fault) = IsRootList roots × IsTextFault dump fault
IsHeldRefusal roots dump probe (Probe fault) =
    IsRootList roots × ((blocks : List Block) × IsTextOf dump blocks) × IsTextFault probe fault
