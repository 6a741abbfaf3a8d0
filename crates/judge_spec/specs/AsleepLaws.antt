-- Laws of functions that are taken as asleep.
use Rattle.std.specs.Prelude.{◌≡◌, ◌↔◌, IsFalse, List, []}
use Rattle.std.specs.List.{Contains}
use Rattle.pci_spec.specs.Slot.{Slot}
use Rattle.pci_spec.specs.Number.{IsImage}
use Rattle.pci_spec.specs.System.{Function, Space, System, is_space_on}
use Rattle.pci_spec.specs.Fault.{SomeAt}
use Rattle.judge_spec.specs.ModelWords.{Words}
use Rattle.judge_spec.specs.Taken.{IsAsleepBy, IsTakenAs}
use Rattle.judge_spec.specs.Asleep.{AreAsleepBy}

-- No two lists are those of one system.
abbrev pub AsleepAreDetermined : Type 0
AsleepAreDetermined =
    (w : Words) (s : System) (slots others : List Slot) → AreAsleepBy w s slots
    → AreAsleepBy w s others → slots ≡ others

-- A slot is listed exactly where a function there is taken as asleep.
abbrev pub AsleepAreListed : Type 0
AsleepAreListed =
    (w : Words) (s : System) (slots : List Slot) (slot : Slot) → AreAsleepBy w s slots
    → Contains slots slot ↔ SomeAt s slot (IsAsleepBy w)

-- Where `power` doesn't count no slot is listed.
abbrev pub NoneIsAsleepWithoutPower : Type 0
NoneIsAsleepWithoutPower =
    (w : Words) (s : System) (slots : List Slot) → IsFalse w.power → AreAsleepBy w s slots
    → slots ≡ []

-- What is taken as asleep has a Command that enables nothing, whatever other words count.
abbrev pub AsleepEnableNothing : Type 0
AsleepEnableNothing =
    (w : Words) (slots : List Slot) (f h : Function) → IsImage f.image → IsAsleepBy w f
    → IsTakenAs w slots f h → (space : Space) → IsFalse (is_space_on h space)
