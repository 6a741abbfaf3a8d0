-- Faults of the places of functions.
use Rattle.std.specs.Prelude.{◌≡◌, ℕ, ◌<◌, IsTrue, List, Some}
use Rattle.std.specs.List.{Contains}
use Rattle.pci_spec.specs.Slot.{slot_number}
use Rattle.pci_spec.specs.System.{System, IsSystem}
use Rattle.pci_spec.specs.Fault.{IsIn, fault_number}
use Rattle.pci_spec.specs.Fault as faults
use Rattle.pci_spec.specs.Order.{phase_of, phase_key, Place, is_before, image_at}
use Rattle.pci_spec.specs.Decoded.{HasRecords}
use Rattle.pci_spec.specs.Decoded as decoded
use Rattle.pci_function.specs.declared.fault.Fault.{Fault}
use Rattle.pci_function.specs.declared.fault.Fault.TheVariants.{LoneFunction, BusRange, Orphan}
use Rattle.pci_function.specs.declared.record.Bridge.{Bridge}
use Rattle.pci_function.specs.declared.record.Record.{Record}
use Rattle.pci_tree.specs.BusNumbers.{IsNotLone, IsLedTo, HasLawfulBuses, IsInPlace}

-- the fault is the first of the function's place: it may be lone, else have no bridge that leads to it, else bus numbers that don't fit
abbrev pub IsPlaceFault : List ℕ → List Record → Record → Fault → Type 0
IsPlaceFault roots records r (LoneFunction slot) = (slot ≡ r.slot) × (IsNotLone records r.slot → ⊥)
IsPlaceFault roots records r (Orphan slot) =
    (slot ≡ r.slot) × (IsLedTo roots records r.slot.bus → ⊥) × IsNotLone records r.slot
IsPlaceFault roots records r (BusRange slot) =
    (slot ≡ r.slot)
    × ((b : Bridge) × (r.bridge ≡ Some b) × (HasLawfulBuses roots records r.slot b → ⊥))
    × IsNotLone records r.slot × IsLedTo roots records r.slot.bus
IsPlaceFault roots records r _ = ⊥

-- the fault is that of some record's function, and each function with a lower slot is in its place
pub record IsSomePlaceFault (roots : List ℕ) (records : List Record) (fault : Fault) : Type 0 where
  pub r : Record
  pub has : Contains records r
  pub is : IsPlaceFault roots records r fault
  pub before : (q : Record) → Contains records q → slot_number q.slot < slot_number r.slot
      → IsInPlace roots records q

-- in each system with these records the fault is one of places, and none of places that is looked for before it is there
pub record IsPlaceRefusal (roots : List ℕ) (records : List decoded.Record)
    (e : faults.Fault) : Type 0 where
  pub there : (s : System) → HasRecords s records → IsIn roots s e
  pub phase : phase_of e ≡ phase_key Place
  pub early : fault_number e < 60
  pub first : (s : System) → IsSystem s → HasRecords s records → (other : faults.Fault)
      → phase_of other ≡ phase_key Place → IsTrue (is_before (image_at s) other e)
      → IsIn roots s other → ⊥
