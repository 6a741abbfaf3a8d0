-- Slots of told ranges that stand in the way of judging, and faults 58 of them.
use Rattle.std.specs.Prelude.{◌≡◌, ◌⊎◌, ℕ, ◌+◌, ◌-◌, ◌*◌, ◌<◌, ◌==◌, ◌&&◌, false, Bool, IsTrue, IsFalse, List, [], ◌∷◌, ◌++◌, Some, length, map, slice_index_or}
use Rattle.std.specs.List.{AllPairs, Contains, list_any, slice_get}
use Rattle.std.specs.List.Sorted.{IsPermutation, IsNonDecreasingBy}
use Rattle.pci_spec.specs.Slot.{Slot, slot_number}
use Rattle.pci_spec.specs.Header.{layout, secondary_bus}
use Rattle.pci_spec.specs.Text.{Block, slots_of}
use Rattle.pci_spec.specs.Fault as plain
use Rattle.pci_function.specs.declared.fault.Fault.{Fault}
use Rattle.pci_function.specs.declared.fault.Fault.TheVariants.{Orphan}
use Rattle.pci_function.specs.Fault.{fault_of}
use Rattle.judge_spec.specs.Told.{ToldRange}
use Rattle.judge_spec.specs.ToldClaims.{is_marked_held}

-- the slot is that of such a range
pub record IsOfSome (Is : ToldRange → Type 0) (ranges : List ToldRange) (slot : Slot) : Type 0 where
  pub r : ToldRange
  pub is_told : Contains ranges r
  pub of_slot : r.slot ≡ slot
  pub is : Is r

-- just the slots of such ranges, in their order, and so none twice
pub record AreSlotsOf (Is : ToldRange → Type 0) (ranges : List ToldRange)
    (slots : List Slot) : Type 0 where
  pub each : (slot : Slot) → Contains slots slot → IsOfSome Is ranges slot
  pub complete : (slot : Slot) → IsOfSome Is ranges slot → Contains slots slot
  pub rising : AllPairs (λ slot other. slot_number slot < slot_number other) slots

-- the slot is the last of a list
abbrev pub IsLast : List Slot → Slot → Type 0
IsLast slots slot = slice_get slots (length slots - 1) ≡ Some slot

-- it stands behind the others, or was the last of them
abbrev pub IsSlotAdded : Slot → List Slot → List Slot → Type 0
IsSlotAdded slot old new =
    (IsLast old slot × (new ≡ old)) ⊎ ((IsLast old slot → ⊥) × (new ≡ old ++ slot ∷ []))

-- the range isn't held, and the dump doesn't list its slot
pub record IsOfNoFunction (dump : List Block) (r : ToldRange) : Type 0 where
  pub not_held : IsFalse (is_marked_held r.mark)
  pub not_listed : Contains (slots_of dump) r.slot → ⊥

-- whether a block is of a bridge that leads to a bus
abbrev pub leads_to : ℕ → Block → Bool
leads_to bus b = layout b.image == 1 && secondary_bus b.image == bus

-- at each bus whether a bridge leads to it
abbrev pub AreLedTo : List Block → List Bool → Type 0
AreLedTo dump led = (bus : ℕ) → bus < 256 → slice_index_or led bus false ≡ list_any (leads_to bus) dump

-- the range is held, its bus is no root, no bridge leads to it, and the dump doesn't list its slot
pub record IsOfNoBus (roots : List ℕ) (dump : List Block) (r : ToldRange) : Type 0 where
  pub held : IsTrue (is_marked_held r.mark)
  pub no_root : Contains roots r.slot.bus → ⊥
  pub no_bridge : list_any (leads_to r.slot.bus) dump ≡ false
  pub not_listed : Contains (slots_of dump) r.slot → ⊥

-- the place of a fault of a function's place in the order in which these are looked for
abbrev pub place_number : plain.Fault → ℕ
place_number (plain.LoneFunction slot) = 3 * slot_number slot
place_number (plain.Orphan slot) = 3 * slot_number slot + 1
place_number (plain.BusRange slot) = 3 * slot_number slot + 2
place_number fault = 0

-- 58 of these slots have their places among the faults; where there is none, those stay as they are
pub record AreOrphansAdded (slots : List Slot) (old new : List Fault) : Type 0 where
  pub moved : IsPermutation (old ++ map (λ slot. Orphan slot) slots) new
  pub sorted : (new ≡ old) ⊎ IsNonDecreasingBy (λ f. place_number (fault_of f)) new
