-- Laws of what is explained: every fault that is printed is found by what is printed of it.
use Rattle.std.specs.Prelude.{◌≡◌, List, ℕ, Some}
use Rattle.pci_spec.specs.ProbeOf.{ProbeFault, probe_fault_text}
use Rattle.judge_spec.specs.Fault as given
use Rattle.judge_spec.specs.Line as given_line
use Rattle.judge_spec.specs.ToldFault as told
use Rattle.judge_spec.specs.ToldLine as told_line
use Rattle.plan_spec.specs.Plan.{PlanFault}
use Rattle.plan_spec.specs.PlanLine.{plan_fault_text}
use Rattle.pciplan_front.specs.declared.fault.Fault.{Fault}
use Rattle.pciplan_front.specs.declared.command.Command.{Command}
use Rattle.pciplan_front.specs.Faults.{explained_fault_number, fault_heading}
use Rattle.pciplan_front.specs.Commands.{explained_command_name}
use Rattle.pciplan_front.specs.Explained.{named_fault, named_command, BeginsWithHeading}

-- A fault's number names it, and a command's name names it,
abbrev pub NumbersName : Type 0
NumbersName = (fault : Fault) → named_fault (explained_fault_number fault) ≡ Some fault

abbrev pub NamesName : Type 0
NamesName = (command : Command) → named_command (explained_command_name command) ≡ Some command

-- the printed text of a fault begins with the number and the name of one that is explained.
pub record HasHeading (text : List ℕ) : Type 0 where
  pub fault : Fault
  pub begins : BeginsWithHeading (fault_heading fault) text

-- That holds of the faults of a dump with its probe, 20 to 31 and 50 to 63,
abbrev pub FaultsHaveHeadings : Type 0
FaultsHaveHeadings = (fault : given.Fault) → HasHeading (given_line.fault_text fault)

-- of those with what is told beside them, 34 too,
abbrev pub ToldFaultsHaveHeadings : Type 0
ToldFaultsHaveHeadings = (fault : told.Fault) → HasHeading (told_line.fault_text fault)

-- of those of a derived probe, 20, 21, 30, 32 and 33,
abbrev pub ProbeFaultsHaveHeadings : Type 0
ProbeFaultsHaveHeadings = (fault : ProbeFault) → HasHeading (probe_fault_text fault)

-- and of those of a plan, 70 to 73.
abbrev pub PlanFaultsHaveHeadings : Type 0
PlanFaultsHaveHeadings = (fault : PlanFault) → HasHeading (plan_fault_text fault)
