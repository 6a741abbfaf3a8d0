-- Bridges among records, and the lists of them that lead from one bus to another.
use Rattle.std.specs.Prelude.{◌≡◌, ℕ, ◌<◌, Bool, IsTrue, List, [], ◌∷◌, length, map, slice_index_or, Option, None, Some, MatchOption}
use Rattle.std.specs.Option.{is_some}
use Rattle.std.specs.List.{Contains, HoldsAt}
use Rattle.pci_spec.specs.Slot.{Slot}
use Rattle.pci_function.specs.declared.record.Bridge.{Bridge}
use Rattle.pci_function.specs.declared.record.Record.{Record}

abbrev pub secondary_in : Option Bridge → ℕ
secondary_in None = 0
secondary_in (Some b) = b.secondary

-- whether a record is of a bridge
abbrev pub is_bridging : Record → Bool
is_bridging r = is_some r.bridge

-- the bus that a bridge leads to
abbrev pub bus_behind : Record → ℕ
bus_behind r = secondary_in r.bridge

-- a record of the list is of a bridge
pub record IsBridgeIn (records : List Record) (b : Record) : Type 0 where
  pub has : Contains records b
  pub is : IsTrue (is_some b.bridge)

-- each bridge of the list stands on the secondary bus of the one before it
abbrev pub Leads : List Record → ℕ → List Record → ℕ → Type 0
Leads records from [] to = from ≡ to
Leads records from (b ∷ bridges) to =
    IsBridgeIn records b × (b.slot.bus ≡ from) × Leads records (bus_behind b) bridges to

-- each bridge leads to a higher bus, and no two to the same
pub record IsForest (records : List Record) : Type 0 where
  pub rises : (b : Record) → IsBridgeIn records b → b.slot.bus < bus_behind b
  pub single : (b c : Record) → IsBridgeIn records b → IsBridgeIn records c
      → bus_behind b ≡ bus_behind c → b ≡ c

-- no bridge leads to a root
abbrev pub AreClear : List ℕ → List Record → Type 0
AreClear roots records = (b : Record) → IsBridgeIn records b → Contains roots (bus_behind b) → ⊥

-- the record at an index is of a bridge that leads to the bus
pub record LeadsAt (records : List Record) (bus k : ℕ) : Type 0 where
  pub within : k < length records
  pub bridge : HoldsAt (λ r. IsTrue (is_some r.bridge)) records k
  pub there : HoldsAt (λ r. bus_behind r ≡ bus) records k

-- the index of the bridge that leads to a bus, if one does
abbrev pub IsBridgeAbove : List Record → ℕ → Option ℕ → Type 0
IsBridgeAbove records bus o =
    MatchOption o ((b : Record) → IsBridgeIn records b → bus_behind b ≡ bus → ⊥)
    (λ k. LeadsAt records bus k)

-- at each bus the index of the bridge that leads there
abbrev pub IsBridgeToBus : List Record → List (Option ℕ) → Type 0
IsBridgeToBus records bridge_to_bus =
    (bus : ℕ) → bus < 256 → IsBridgeAbove records bus (slice_index_or bridge_to_bus bus None)

-- the one list of bridges that leads to a bus from a root
pub record IsTheWay (records : List Record) (roots : List ℕ) (way : List Record)
    (to : ℕ) : Type 0 where
  pub root : ℕ
  pub starts : Contains roots root
  pub leads : Leads records root way to
  pub only : (from : ℕ) (other : List Record) → Contains roots from → Leads records from other to
      → (from ≡ root) × (other ≡ way)

abbrev pub slots_of : List Record → List Slot
slots_of records = map (λ r. r.slot) records

-- the slots of that list
pub record AreSlotsOfWay (records : List Record) (roots : List ℕ) (slots : List Slot)
    (to : ℕ) : Type 0 where
  pub way : List Record
  pub named : slots_of way ≡ slots
  pub the : IsTheWay records roots way to

-- no list of bridges leads to the bus from a root
abbrev pub IsUnled : List Record → List ℕ → ℕ → Type 0
IsUnled records roots to =
    (root : ℕ) (other : List Record) → Contains roots root → Leads records root other to → ⊥
