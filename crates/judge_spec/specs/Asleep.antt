-- Which functions of a system are taken as asleep by a user's words.
use Rattle.std.specs.Prelude.{◌≡◌, ◌⊎◌, List, [], ◌∷◌}
use Rattle.pci_spec.specs.Slot.{Slot}
use Rattle.pci_spec.specs.System.{Function, System}
use Rattle.judge_spec.specs.ModelWords.{Words}
use Rattle.judge_spec.specs.Taken.{IsAsleepBy}

-- the slots of the functions of which something is true, in their order
abbrev pub AreSlotsWhere : (Function → Type 0) → System → List Slot → Type 0
AreSlotsWhere Property [] slots = slots ≡ []
AreSlotsWhere Property (f ∷ s) slots =
    (Property f
    × ((more : List Slot) × (slots ≡ f.slot ∷ more) × AreSlotsWhere Property s more))
    ⊎ ((Property f → ⊥) × AreSlotsWhere Property s slots)

-- the slots of those that are taken as asleep: none where `power` doesn't count
abbrev pub AreAsleepBy : Words → System → List Slot → Type 0
AreAsleepBy w s slots = AreSlotsWhere (IsAsleepBy w) s slots
