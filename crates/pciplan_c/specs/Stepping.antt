-- The accesses by which C puts a plan onto a machine.
use Rattle.std.specs.Prelude.{◌≡◌, ◌<◌, ℕ, ◌==◌, if◌then◌else◌, List, map, length, Option, None, Some, Result, Ok, Err}
use Rattle.pci_spec.specs.Text.{Block, IsTextOf}
use Rattle.pci_dump.specs.ReadFault.{IsTextFault}
use Rattle.pci_plan.specs.ApplyText.{apply_fault_number}
use Rattle.pci_plan.specs.declared.apply_fault.ApplyFault.{ApplyFault}
use Rattle.pci_plan.specs.declared.apply_fault.ApplyFault.TheVariants.{Changed, Port, Stuck}
use Rattle.pci_plan.specs.Steps.{AccessStep, all_shown}
use Rattle.pci_plan.specs.declared.step.Kind.{Kind}
use Rattle.pci_plan.specs.declared.step.Kind.TheVariants.{Compare, Make, ReadBack}
use Rattle.pciplan_c.specs.Puts.{IsPutInto}
use Rattle.pciplan_c.specs.RegisterWrites.{write_value_of}
use Rattle.pciplan_c.specs.declared.register_write.RegisterWrite.{RegisterWrite}
use Rattle.pciplan_c.specs.declared.stepping.RegisterStep.{RegisterStep}
use Rattle.pciplan_c.specs.declared.starting.NoStart.{NoStart}
use Rattle.pciplan_c.specs.declared.starting.NoStart.TheVariants.{Memory, Dump, Registers}

abbrev pub step_kind_of : ℕ → Kind
step_kind_of kind = if kind == 0 then Compare else if kind == 1 then Make else ReadBack

-- an access as C has it
abbrev pub c_step_value : RegisterStep → AccessStep
c_step_value s =
    record { kind = step_kind_of s.kind; register = write_value_of s.register; done = s.done }

-- what an access shows: nothing is known of one that failed
abbrev pub shown_by_access : ℕ → ℕ → Option ℕ
shown_by_access answered shown = if answered == 0 then None else Some shown

-- 0 where the next access is to be made, or the number of the fault that ends them
abbrev pub answer_number : Result (Unit {0}) ApplyFault → ℕ
answer_number (Ok _) = 0
answer_number (Err fault) = apply_fault_number fault

-- what the number says of an access: a fault is one of its register, or of how many writes stand
abbrev pub answer_by_number : AccessStep → ℕ → Result (Unit {0}) ApplyFault
answer_by_number step number =
    if number == 0 then Ok tt
    else if number == 80 then Err (Changed step.register.slot step.register.offset)
    else if number == 81 then Err (Port step.done)
    else Err (Stuck step.done)

-- the registers that are compared, with what they show in the dump whose text this is
pub record AreShown (dump : List ℕ) (registers : List RegisterWrite) : Type 0 where
  pub listed : List Block
  pub text : IsTextOf dump listed
  pub shown : map write_value_of registers ≡ all_shown listed

-- they stand at the front of the array, so many of them
pub record IsStartPut (dump : List ℕ) (old new : List RegisterWrite) (count : ℕ) : Type 0 where
  pub registers : List RegisterWrite
  pub shown : AreShown dump registers
  pub put : IsPutInto old new registers
  pub number : count ≡ length registers

-- they are more than the array has room for
pub record IsStartTooLong (dump : List ℕ) (array : List RegisterWrite) (needed : ℕ) : Type 0 where
  pub registers : List RegisterWrite
  pub shown : AreShown dump registers
  pub number : needed ≡ length registers
  pub more : length array < needed

-- why there are no registers
abbrev pub IsNoDump : List ℕ → NoStart → Type 0
IsNoDump dump Memory = Unit {0}
IsNoDump dump (Dump fault) = IsTextFault dump fault
IsNoDump dump (Registers needed) = ⊥

-- why none are put
abbrev pub IsNoStart : List ℕ → List RegisterWrite → NoStart → Type 0
IsNoStart dump array Memory = Unit {0}
IsNoStart dump array (Dump fault) = IsTextFault dump fault
IsNoStart dump array (Registers needed) = IsStartTooLong dump array needed
