-- Numbering one access at a time, as C has it.
use Rattle.std.specs.Prelude.{ℕ, ◌==◌, if◌then◌else◌}
use Rattle.pci_number.specs.Logs.{slot_of_access}
use Rattle.pci_number.specs.declared.access.Access.{Access}
use Rattle.pci_number.specs.declared.access.Step.{Step}
use Rattle.pci_number.specs.declared.access.Step.TheVariants.{Next, Done, Stuck}
use Rattle.pci_number.specs.declared.access.Stepped.{Stepped}
use Rattle.pci_number.specs.declared.number.Numbering.TheVariants.{Numbered, NoBus}
use Rattle.pci_number.specs.declared.stop.NotTaken.{NotTaken}
use Rattle.pciplan_c.specs.declared.numbering.NumberStep.{NumberStep}

abbrev pub not_taken : Access → NotTaken
not_taken a = record { slot = slot_of_access a; offset = a.offset; number = a.value }

-- what an answer says
abbrev pub step_of : ℕ → NumberStep → Step
step_of answer s =
    if answer == 0 then Done (Numbered s.highest)
    else if answer == 1 then Done (NoBus (slot_of_access s.access) s.highest)
    else if answer == 2 then Stuck (not_taken s.access)
    else Next s.access

abbrev pub stepped_of : ℕ → NumberStep → Stepped
stepped_of answer s = record { used = s.used; step = step_of answer s }
