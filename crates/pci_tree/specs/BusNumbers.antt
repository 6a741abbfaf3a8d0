-- Bus numbers of bridges among records, and functions that stand in their places (Bridge 1.2, 3.2.5).
use Rattle.std.specs.Prelude.{◌≡◌, ◌⊎◌, ℕ, ◌<◌, ◌≤◌, List, Option, None, Some, MatchOption, min, slice_index_or}
use Rattle.std.specs.List.{All, Contains}
use Rattle.pci_spec.specs.Slot.{Slot, slot_number}
use Rattle.pci_function.specs.declared.record.Bridge.{Bridge}
use Rattle.pci_function.specs.declared.record.Record.{Record}
use Rattle.pci_tree.specs.Ways.{slots_of}

-- a record of the list is of a bridge with these numbers
pub record IsBridgeWith (records : List Record) (c : Record) (d : Bridge) : Type 0 where
  pub has : Contains records c
  pub is : c.bridge ≡ Some d

-- a bridge knows its own bus, and leads to higher ones
abbrev pub HasBusOrder : ℕ → Bridge → Type 0
HasBusOrder bus b = (b.primary ≡ bus) × (bus < b.secondary) × (b.secondary ≤ b.subordinate)

-- a bus is in the range of a bridge
abbrev pub IsBehind : Bridge → ℕ → Type 0
IsBehind b bus = (b.secondary ≤ bus) × (bus ≤ b.subordinate)

-- no bus is behind a bridge: the ends of its range are crossed
abbrev pub HasNoBus : Bridge → Type 0
HasNoBus b = b.subordinate < b.secondary

-- the range of one of two bridges ends before that of the other begins
abbrev pub AreApart : Bridge → Bridge → Type 0
AreApart b d = (b.subordinate < d.secondary) ⊎ (d.subordinate < b.secondary)

-- no bus is behind both of two bridges
abbrev pub ShareNoBus : Bridge → Bridge → Type 0
ShareNoBus b d = AreApart b d ⊎ (HasNoBus b ⊎ HasNoBus d)

-- two buses are the same, or both are roots
abbrev pub AreSiblings : List ℕ → ℕ → ℕ → Type 0
AreSiblings roots m n = (m ≡ n) ⊎ (Contains roots m × Contains roots n)

-- the bridge shares no bus with a function which is a bridge with a lower slot
abbrev pub IsApartFrom : Record → Slot → Bridge → Type 0
IsApartFrom c slot b =
    (d : Bridge) → c.bridge ≡ Some d → slot_number c.slot < slot_number slot → ShareNoBus b d

-- and with those among some records
abbrev pub IsApartFromLower : List Record → Slot → Bridge → Type 0
IsApartFromLower part slot b = All (λ c. IsApartFrom c slot b) part

-- and with those that stand on its bus, or on any root where its bus is one
abbrev pub IsApartFromEarlier : List ℕ → List Record → Slot → Bridge → Type 0
IsApartFromEarlier roots records slot b =
    (c : Record) (d : Bridge) → IsBridgeWith records c d → AreSiblings roots c.slot.bus slot.bus
    → slot_number c.slot < slot_number slot → ShareNoBus b d

-- the range ends where that of each bridge that leads to its bus does, or before; a root has no such
abbrev pub IsInsideParents : List ℕ → List Record → Slot → Bridge → Type 0
IsInsideParents roots records slot b =
    (Contains roots slot.bus → ⊥) → (c : Record) (d : Bridge) → IsBridgeWith records c d
    → d.secondary ≡ slot.bus → b.subordinate ≤ d.subordinate

-- no root is behind the bridge
abbrev pub HasNoRootBehind : List ℕ → Bridge → Type 0
HasNoRootBehind roots b = (root : ℕ) → Contains roots root → IsBehind b root → ⊥

-- the bus numbers of the bridge at a slot fit those of the others, and the roots
pub record HasLawfulBuses (roots : List ℕ) (records : List Record) (slot : Slot)
    (b : Bridge) : Type 0 where
  pub order : HasBusOrder slot.bus b
  pub apart : IsApartFromEarlier roots records slot b
  pub inside : IsInsideParents roots records slot b
  pub clear : HasNoRootBehind roots b

-- a bridge of the records leads to the bus
pub record HasLeader (records : List Record) (bus : ℕ) : Type 0 where
  pub c : Record
  pub d : Bridge
  pub bridge : IsBridgeWith records c d
  pub there : d.secondary ≡ bus

-- a bus is a root, or a bridge leads to it
abbrev pub IsLedTo : List ℕ → List Record → ℕ → Type 0
IsLedTo roots records bus = Contains roots bus ⊎ HasLeader records bus

-- function 0 of a device
abbrev pub first_function : Slot → Slot
first_function slot = record { bus = slot.bus; device = slot.device; function = 0 }

-- the function has function 0 of its device beside it, where it is another
abbrev pub IsNotLone : List Record → Slot → Type 0
IsNotLone records slot = 0 < slot.function → Contains (slots_of records) (first_function slot)

-- nothing is wrong with the place of a function
pub record IsInPlace (roots : List ℕ) (records : List Record) (r : Record) : Type 0 where
  pub beside : IsNotLone records r.slot
  pub led : IsLedTo roots records r.slot.bus
  pub buses : (b : Bridge) → r.bridge ≡ Some b → HasLawfulBuses roots records r.slot b

-- the lesser of a number, where there is one, and another
abbrev pub least_of : Option ℕ → ℕ → ℕ
least_of None n = n
least_of (Some m) n = min m n

-- the number is the subordinate bus of a bridge that leads to the bus, and at most that of each
pub record IsLeastOf (records : List Record) (bus m : ℕ) : Type 0 where
  pub c : Record
  pub d : Bridge
  pub bridge : IsBridgeWith records c d
  pub there : d.secondary ≡ bus
  pub end : d.subordinate ≡ m
  pub least : (x : Record) (y : Bridge) → IsBridgeWith records x y → y.secondary ≡ bus
      → m ≤ y.subordinate

-- the least subordinate bus of the bridges that lead to a bus
abbrev pub IsLeastEnd : List Record → ℕ → Option ℕ → Type 0
IsLeastEnd records bus o =
    MatchOption o ((c : Record) (d : Bridge) → IsBridgeWith records c d → d.secondary ≡ bus → ⊥)
    (λ m. IsLeastOf records bus m)

-- at each bus that number
abbrev pub AreLeastEnds : List Record → List (Option ℕ) → Type 0
AreLeastEnds records table =
    (bus : ℕ) → bus < 256 → IsLeastEnd records bus (slice_index_or table bus None)

-- a bus is at most a number, where there is one
abbrev pub EndsWithin : Option ℕ → ℕ → Type 0
EndsWithin None n = Unit {0}
EndsWithin (Some m) n = n ≤ m
