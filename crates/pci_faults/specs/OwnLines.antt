-- What one function adds to a list of all faults.
use Rattle.std.specs.Prelude.{◌≡◌, ℕ, ◌<◌, IsTrue, List, Option}
use Rattle.std.specs.List.{Contains}
use Rattle.pci_spec.specs.System.{System, Function}
use Rattle.pci_spec.specs.Fault as faults
use Rattle.pci_spec.specs.Order.{is_before, image_at, phase_of}
use Rattle.pci_spec.specs.FaultLines.{subject}
use Rattle.pci_function.specs.declared.fault.Fault.{Fault}
use Rattle.pci_function.specs.Profile.{IsHere}
use Rattle.pci_faults.specs.Lists.{AreJust, present_faults}

-- none of an earlier phase is one of the function by itself
abbrev pub HasNoneBefore : ℕ → Function → Type 0
HasNoneBefore phase f = (other : faults.Fault) → phase_of other < phase → IsHere f other → ⊥

-- the fault is one of the function by itself, of this phase, and none of its subject is looked for before it
pub record IsOwnLine (phase : ℕ) (f : Function) (fault : faults.Fault) : Type 0 where
  pub here : IsHere f fault
  pub phase_is : phase_of fault ≡ phase
  pub first : (other : faults.Fault) → subject other ≡ subject fault
      → IsTrue (is_before (λ slot. f.image) other fault) → IsHere f other → ⊥

-- whether one fault of the function is looked for before another
abbrev pub IsBeforeIn : Function → faults.Fault → faults.Fault → Type 0
IsBeforeIn f fault other = IsTrue (is_before (λ slot. f.image) fault other)

-- the same of two faults of a system
abbrev pub IsBeforeAt : System → faults.Fault → faults.Fault → Type 0
IsBeforeAt s fault other = IsTrue (is_before (image_at s) fault other)

-- just those of the function
abbrev pub AreOwnLines : ℕ → Function → List (Option Fault) → Type 0
AreOwnLines phase f list = AreJust (IsBeforeIn f) (IsOwnLine phase f) (present_faults list)

-- it is a line of one of these functions
pub record IsOwnOf (Own : Function → faults.Fault → Type 0) (fs : System)
    (fault : faults.Fault) : Type 0 where
  pub of : Function
  pub has : Contains fs of
  pub own : Own of fault
