-- What a survey has of the functions that it took.
use Rattle.std.specs.Prelude.{◌≡◌, ◌≢◌, ◌⊎◌, ℕ, ◌+◌, ◌<◌, IsTrue, ◌≤◌, nat_lt, if◌then◌else◌, List, [], ◌∷◌, ◌++◌, map, Option, None, Some}
use Rattle.std.specs.List.{All, Contains}
use Rattle.pci_spec.specs.Slot.{Slot, IsSlot, slot_number}
use Rattle.pci_spec.specs.System.{System, Function, IsSystem}
use Rattle.pci_spec.specs.Bus.{IsNested}
use Rattle.pci_spec.specs.Sound.{IsInProfile, HasChains}
use Rattle.pci_spec.specs.Fault.{Fault, IsIn, fault_number}
use Rattle.pci_spec.specs.Decoded.{record_of, HasRecords}
use Rattle.pci_spec.specs.Decoded as decoded
use Rattle.pci_function.specs.declared.record.Record.{Record}
use Rattle.pci_tree.specs.Regions.{IsLawful}
use Rattle.pci_tree.specs.Outline.{RiseBySlot, Tree}
use Rattle.pci_spec.specs.Order.{phase_of, phase_key, Slots, is_before, image_at}
use Rattle.pci_function.specs.Profile.{IsHere, IsClearBefore, IsFirstOf, IsFirstFault}

-- a survey: its root buses, the records, the fault that is noted, and the slot last added
pub record Surveyed : Type 0 where
  pub roots : List ℕ
  pub records : List decoded.Record
  pub fault : Option Fault
  pub last : Option Slot

-- a slot is at most the last one
abbrev pub IsUpTo : Option Slot → Slot → Type 0
IsUpTo None s = ⊥
IsUpTo (Some l) s = slot_number s ≤ slot_number l

-- what each survey keeps of its records: they are in slot order, up to the last slot, and their ranges are lawful
pub record AreKept (records : List Record) (last : Option Slot) : Type 0 where
  pub slots : All (λ r. IsSlot r.slot) records
  pub rising : RiseBySlot records
  pub lawful : All IsLawful records
  pub below : (r : Record) → Contains records r → IsUpTo last r.slot

-- the phase of the fault that is noted, or that of places where none is
abbrev pub phase_noted : Option Fault → ℕ
phase_noted None = 4
phase_noted (Some e) = phase_of e

-- the fault of the earlier phase, of two of one phase the first
abbrev pub earlier : Option Fault → Fault → Fault
earlier None e = e
earlier (Some n) e = if nat_lt (phase_of e) (phase_of n) then e else n

-- the fault is one of a function by itself, of its phase the first there, and the functions before that one have none of that phase
pub record IsFirstAmong (s : System) (e : Fault) : Type 0 where
  pub f : Function
  pub before : System
  pub after : System
  pub split : s ≡ before ++ f ∷ after
  pub here : IsHere f e
  pub first : IsFirstOf (phase_of e) f e
  pub earlier : (g : Function) → Contains before g → IsClearBefore (phase_of e + 1) g

-- the fault is such a one, or that of two lists of slots
abbrev pub IsNoted : System → Fault → Type 0
IsNoted s e = (phase_of e ≡ phase_key Slots) ⊎ IsFirstAmong s e

-- A survey has taken these functions: a fault that is noted is there, and in none of them is one of an earlier phase. Where none is
-- noted the records are theirs.
pub record IsSurveyOf (v : Surveyed) (s : System) : Type 0 where
  pub clear : (f : Function) → Contains s f → IsClearBefore (phase_noted v.fault) f
  pub there : (e : Fault) → v.fault ≡ Some e → IsNoted s e
  pub same : v.fault ≡ None → map record_of s ≡ v.records

-- one more function leaves what is noted, having no fault by itself, or its first fault is noted where it is the earlier
abbrev pub IsNotedWith : Function → Option Fault → Option Fault → Type 0
IsNotedWith f old new =
    (IsClearBefore 4 f × (new ≡ old))
    ⊎ ((e : Fault) × IsFirstFault f e × (new ≡ Some (earlier old e)))

-- the lesser of two slots
abbrev pub lesser_slot : Slot → Slot → Slot
lesser_slot s t = if nat_lt (slot_number t) (slot_number s) then t else s

-- a survey took one more function
pub record IsAdded (v w : Surveyed) (f : Function) : Type 0 where
  pub noted : IsNotedWith f v.fault w.fault
  pub appended : w.fault ≡ None → w.records ≡ v.records ++ record_of f ∷ []
  pub kept : (e : Fault) → w.fault ≡ Some e → w.records ≡ v.records
  pub roots : w.roots ≡ v.roots
  pub last : w.last ≡ Some f.slot

-- the outline of a survey's records: nothing is noted, and in each list of functions that it took nothing is wrong
pub record IsOutlineOf (v : Surveyed) (o : Tree) : Type 0 where
  pub roots : o.roots ≡ v.roots
  pub records : o.records ≡ v.records
  pub none : v.fault ≡ None
  pub decoded : (s : System) → IsSurveyOf v s → HasRecords s v.records
  pub nested : (s : System) → IsSurveyOf v s → IsNested v.roots s
  pub profile : (s : System) → IsSurveyOf v s → IsInProfile v.roots s
  pub chains : (s : System) → IsSurveyOf v s → HasChains s

-- the fault that a survey is refused by: the noted one, else one of places; it is there, and none that is looked for before it, where it
-- isn't that of two lists of slots
pub record IsRefusedBy (v : Surveyed) (e : Fault) : Type 0 where
  pub noted : (n : Fault) → v.fault ≡ Some n → e ≡ n
  pub there : (s : System) → IsSurveyOf v s
      → ((phase_of e ≡ phase_key Slots) × (v.fault ≡ Some e)) ⊎ IsIn v.roots s e
  pub early : (s : System) → IsSurveyOf v s → fault_number e < 60
  pub first : (s : System) → IsSystem s → IsSurveyOf v s → phase_of e ≢ 0 → (other : Fault)
      → IsTrue (is_before (image_at s) other e) → IsIn v.roots s other → ⊥
