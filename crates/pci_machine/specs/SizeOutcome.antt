-- What stands after sizing a function ended with a fault.
use Rattle.std.specs.Prelude.{◌≡◌, ℕ, ◌≤◌, Bool, IsTrue, IsFalse, List, Option, Some, None, Result, Ok, Err}
use Rattle.pci_spec.specs.Slot.{Slot}
use Rattle.pci_spec.specs.Header.{command, layout}
use Rattle.pci_spec.specs.Machine.{Target}
use Rattle.pci_image.specs.Faults.{IsImageFaultIn, image_fault_number}
use Rattle.pci_spec.specs.Port.{has_function, with_image}
use Rattle.pci_spec.specs.Sizing.{function_at, IsPartlySized, IsStuck, is_looked_at, is_written_to}
use Rattle.pci_machine.specs.Outcome.{failures_of_error}
use Rattle.pci_machine.specs.declared.port.PortError.{PortError}
use Rattle.pci_machine.specs.declared.port.PortError.TheVariants.{NoFunction, BadAccess, Failed}
use Rattle.pci_machine.specs.declared.size_fault.SizeFault.{SizeFault}
use Rattle.pci_machine.specs.declared.size_fault.SizeFault.TheVariants.{Header, Port, Stuck}

-- the number of a fault
abbrev pub size_fault_number : SizeFault → ℕ
size_fault_number (Header fault) = image_fault_number fault
size_fault_number (Port offset fault old) = 43
size_fault_number Stuck = 44

-- how many failures of the port a fault of sizing counts as
abbrev pub failures_of_size_fault : SizeFault → ℕ
failures_of_size_fault (Header fault) = 0
failures_of_size_fault (Port offset fault old) = failures_of_error fault
failures_of_size_fault Stuck = 0

-- how many failures of the port an end of sizing counts as
abbrev pub failures_of_size : {T : Type 0} → Result T SizeFault → ℕ
failures_of_size (Ok x) = 0
failures_of_size (Err fault) = failures_of_size_fault fault

-- an access of sizing is refused only because it failed, or because no function is at the slot
abbrev pub IsCause : PortError → Bool → Type 0
IsCause NoFunction there = IsFalse there
IsCause BadAccess there = ⊥
IsCause Failed there = IsTrue there

-- an access at an offset failed: before Command was written, or with the old Command and the function as it was left
abbrev pub StopLeaves : List Target → Slot → List Target → ℕ → Option ℕ → Type 0
StopLeaves before slot after offset None = (after ≡ before) × IsTrue (is_looked_at offset)
StopLeaves before slot after offset (Some old) =
    (old ≡ command (function_at before slot).image)
    × IsTrue (is_written_to (layout (function_at before slot).image) offset)
    × ((image : List ℕ) × (after ≡ with_image before slot image)
    × IsPartlySized (function_at before slot) image)

-- the functions before and after, by the fault
abbrev pub SizingLeaves : List Target → Slot → List Target → SizeFault → Type 0
SizingLeaves before slot after (Header fault) =
    (after ≡ before) × IsTrue (has_function before slot)
    × IsImageFaultIn (function_at before slot).image (function_at before slot).image fault
    × (image_fault_number fault ≤ 21)
SizingLeaves before slot after Stuck =
    (after ≡ before) × IsTrue (has_function before slot) × IsStuck (function_at before slot)
SizingLeaves before slot after (Port offset fault old) =
    IsCause fault (has_function before slot) × StopLeaves before slot after offset old

-- a fault that comes of an access that failed tells its offset
abbrev pub TellsOffset : (ℕ → Type 0) → SizeFault → Type 0
TellsOffset HasFailedAt (Header fault) = Unit {0}
TellsOffset HasFailedAt Stuck = Unit {0}
TellsOffset HasFailedAt (Port offset fault old) = fault ≡ Failed → HasFailedAt offset
