-- Lists of just those faults that are of some kind.
use Rattle.std.specs.Prelude.{◌≡◌, List, [], ◌∷◌, Option, None, Some}
use Rattle.std.specs.List.{AllPairs, Contains}
use Rattle.pci_spec.specs.Fault as faults
use Rattle.pci_function.specs.declared.fault.Fault.{Fault}
use Rattle.pci_function.specs.Fault.{fault_of}

-- each fault of the kind stands in the list and no other does, each before those that it is looked for before
pub record AreJust (Before : faults.Fault → faults.Fault → Type 0) (Is : faults.Fault → Type 0)
    (list : List faults.Fault) : Type 0 where
  pub each : (fault : faults.Fault) → Contains list fault → Is fault
  pub complete : (fault : faults.Fault) → Is fault → Contains list fault
  pub rising : AllPairs Before list

-- those faults that are there
abbrev pub present_faults : List (Option Fault) → List faults.Fault
present_faults [] = []
present_faults (None ∷ rest) = present_faults rest
present_faults (Some fault ∷ rest) = fault_of fault ∷ present_faults rest

-- the fault is the list's first
abbrev pub BeginsWith : faults.Fault → List faults.Fault → Type 0
BeginsWith fault list = (rest : List faults.Fault) × (list ≡ fault ∷ rest)
