-- What is told of the places of functions.
use Rattle.std.specs.Prelude.{◌≡◌, ℕ, List, [], ◌∷◌, ◌++◌, Option}
use Rattle.std.specs.Bool.{then_some}
use Rattle.pci_spec.specs.Slot.{Slot}
use Rattle.pci_spec.specs.System.{System, Function}
use Rattle.pci_spec.specs.Fault as faults
use Rattle.pci_spec.specs.Fault.{IsIn}
use Rattle.pci_function.specs.declared.fault.Fault.{Fault}
use Rattle.pci_function.specs.declared.fault.Fault.TheVariants.{LoneFunction, Orphan, BusRange}
use Rattle.pci_function.specs.declared.record.Record.{Record}
use Rattle.pci_function.specs.Decoding.{IsRecordOf}
use Rattle.pci_tree.specs.declared.buses.Misplaced.{Misplaced}
use Rattle.pci_tree.specs.Misplaced.{IsMisplacedBy}

-- the function's record stands behind the others
abbrev pub IsRecordAdded : Function → List Record → List Record → Type 0
IsRecordAdded f old new = (r : Record) × IsRecordOf f r × (new ≡ old ++ r ∷ [])

-- the fault is one of the place of the function at the slot
abbrev pub IsPlaceAt : Slot → faults.Fault → Type 0
IsPlaceAt slot (faults.LoneFunction other) = other ≡ slot
IsPlaceAt slot (faults.Orphan other) = other ≡ slot
IsPlaceAt slot (faults.BusRange other) = other ≡ slot
IsPlaceAt slot _ = ⊥

-- it is there, and is one of the function's place
abbrev pub IsPlaceOf : List ℕ → System → Function → faults.Fault → Type 0
IsPlaceOf roots s f fault = IsIn roots s fault × IsPlaceAt f.slot fault

-- what is told of a place, of which this is wrong
abbrev pub place_list : Slot → Misplaced → List (Option Fault)
place_list slot m =
    then_some m.lone (LoneFunction slot) ∷ then_some m.orphan (Orphan slot)
    ∷ then_some m.bus_range (BusRange slot) ∷ []

-- just what is wrong with the place of the record's function is told
abbrev pub ArePlaceFaults : List ℕ → List Record → Record → List (Option Fault) → Type 0
ArePlaceFaults roots records r list =
    (m : Misplaced) × IsMisplacedBy roots records r m × (list ≡ place_list r.slot m)
