-- Laws of a fault's members: what a program reads of the document is what the fault is.
use Rattle.std.specs.Prelude.{◌≡◌, ◌≤◌, ◌+◌, ℕ, ⊤, List, map}
use Rattle.std.specs.List.{All}
use Rattle.pci_spec.specs.Fault.{Fault, Unreached, Clash, Split}
use Rattle.pci_spec.specs.Line.{fault_text}
use Rattle.judge_spec.specs.Fault as given
use Rattle.judge_spec.specs.Line as given_line
use Rattle.judge_spec.specs.ToldFault as told
use Rattle.judge_spec.specs.ToldLine as told_line
use Rattle.pci_json.specs.Lines.{lines_of_text}
use Rattle.pci_json.specs.Members.{object_of}
use Rattle.pci_json.specs.Faults.{fault_members}
use Rattle.pci_json.specs.Documents.{faults_of}
use Rattle.pci_json.specs.FaultValues.{all_values, all_given_values, all_told_values}

-- The members that are made of a fault's line are those of the fault.
abbrev pub HasFaultMembers : Type 0
HasFaultMembers = (fault : Fault) → fault_members (fault_text fault) ≡ all_values fault

abbrev pub HasGivenFaultMembers : Type 0
HasGivenFaultMembers = (fault : given.Fault) → fault_members (given_line.fault_text fault) ≡ all_given_values fault

-- Of the text of a list of faults without reasons the document has one object for each fault, in their order. Its members
-- are those of the fault. Where there is no fault, the text is `yes`, and there is no object.
abbrev pub HasEachFault : Type 0
HasEachFault =
    (faults : List given.Fault) → faults_of (lines_of_text (given_line.list_text faults)) ≡ map (λ fault. object_of (all_given_values fault)) faults

-- ---- with what is told

-- a register of a function, or a line of a text, which has 4,096 at most
abbrev pub IsRegister : ℕ → Type 0
IsRegister register = register ≤ 255 + 4096

-- what the fault names is one of these
abbrev pub NamesPlain : Fault → Type 0
NamesPlain (Unreached slot register space address bridge) = IsRegister register
NamesPlain (Clash bus space address first first_register second second_register) = IsRegister first_register × IsRegister second_register
NamesPlain (Split space address first first_register second second_register) = IsRegister first_register × IsRegister second_register
NamesPlain fault = ⊤

abbrev pub NamesKnown : given.Fault → Type 0
NamesKnown (given.Known fault) = NamesPlain fault
NamesKnown (given.Outside slot register space address) = IsRegister register

abbrev pub NamesRegisters : told.Fault → Type 0
NamesRegisters (told.Known fault) = NamesKnown fault
NamesRegisters (told.NotListed slot) = ⊤

abbrev pub HasToldFaultMembers : Type 0
HasToldFaultMembers = (fault : told.Fault) → NamesRegisters fault → fault_members (told_line.fault_text fault) ≡ all_told_values fault

abbrev pub HasEachToldFault : Type 0
HasEachToldFault =
    (faults : List told.Fault) → All NamesRegisters faults
    → faults_of (lines_of_text (told_line.list_text faults)) ≡ map (λ fault. object_of (all_told_values fault)) faults
