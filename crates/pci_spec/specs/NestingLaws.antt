-- Laws of bus numbers: when bus ranges nest, and what lists of bridges lead where they do.
use Rattle.std.specs.Prelude.{◌≡◌, ℕ, ◌<◌, ◌≤◌, ◌↔◌, IsTrue, List, [], ◌∷◌, ◌++◌, map}
use Rattle.std.specs.List.{Contains}
use Rattle.std.specs.List.Sorted.{IsStrictlyIncreasing}
use Rattle.pci_spec.specs.Slot.{Slot, slot_number}
use Rattle.pci_spec.specs.Header.{primary_bus}
use Rattle.pci_spec.specs.System.{System, Function, IsSystem, is_bridge, Leads}
use Rattle.pci_spec.specs.Bus.{secondary, subordinate, is_behind, are_apart, share_no_bus, is_inside, is_strictly_inside, is_root, has_bus_order, IsNested}
use Rattle.pci_spec.specs.Fault.{IsIn, BusRange, Orphan}

-- A bridge has its buses in order exactly where it knows its own bus, and leads to higher ones.
abbrev pub BusOrderByNumber : Type 0
BusOrderByNumber =
    (b : Function) → IsTrue (has_bus_order b)
    ↔ ((primary_bus b.image ≡ b.slot.bus) × (b.slot.bus < secondary b)
    × (secondary b ≤ subordinate b))

-- Ranges are apart exactly where no bus is behind both bridges.
abbrev pub ApartSharesNoBus : Type 0
ApartSharesNoBus =
    (b c : Function) → IsTrue (has_bus_order b) → IsTrue (has_bus_order c)
    → IsTrue (are_apart b c) ↔ ((bus : ℕ) → IsTrue (is_behind b bus) → IsTrue (is_behind c bus) → ⊥)

-- Two bridges share no bus exactly where none is behind both, whatever their numbers are.
abbrev pub SharedBusIsBehindBoth : Type 0
SharedBusIsBehindBoth =
    (b c : Function) → IsTrue (share_no_bus b c)
    ↔ ((bus : ℕ) → IsTrue (is_behind b bus) → IsTrue (is_behind c bus) → ⊥)

-- A range is inside another exactly where each bus behind its bridge is behind the other.
abbrev pub InsideIsBehindBoth : Type 0
InsideIsBehindBoth =
    (b outer : Function) → IsTrue (has_bus_order b)
    → IsTrue (is_inside b outer)
    ↔ ((bus : ℕ) → IsTrue (is_behind b bus) → IsTrue (is_behind outer bus))

-- It is strictly inside exactly where it is inside, and the other isn't inside it.
abbrev pub StrictlyInsideIsOneWay : Type 0
StrictlyInsideIsOneWay =
    (b outer : Function) → IsTrue (is_strictly_inside b outer)
    ↔ (IsTrue (is_inside b outer) × (IsTrue (is_inside outer b) → ⊥))

-- A bus is a root exactly where it is listed as one.
abbrev pub RootIsListed : Type 0
RootIsListed = (roots : List ℕ) (bus : ℕ) → IsTrue (is_root roots bus) ↔ Contains roots bus

-- no bridge has a bus-range fault, and no function is an orphan
abbrev pub HasNoBusFault : List ℕ → System → Type 0
HasNoBusFault roots s =
    (slot : Slot) → (IsIn roots s (BusRange slot) → ⊥) × (IsIn roots s (Orphan slot) → ⊥)

-- Where neither fault is there, bus ranges nest.
abbrev pub NestingFollows : Type 0
NestingFollows =
    (roots : List ℕ) (s : System) → IsSystem s → HasNoBusFault roots s → IsNested roots s

-- Where they nest, neither fault is there.
abbrev pub NestedHasNoBusFault : Type 0
NestedHasNoBusFault = (roots : List ℕ) (s : System) → IsNested roots s → HasNoBusFault roots s

-- At most one list of bridges leads from the roots to a bus.
abbrev pub OneWayLeadsToABus : Type 0
OneWayLeadsToABus =
    (roots : List ℕ) (s : System) → IsSystem s → IsNested roots s
    → (root other_root : ℕ) (bridges other_bridges : List Function) (bus : ℕ) → Contains roots root
    → Contains roots other_root
    → Leads s root bridges bus → Leads s other_root other_bridges bus
    → (root ≡ other_root) × (bridges ≡ other_bridges)

-- To the bus of each function such a list leads.
abbrev pub AWayLeadsToEachFunction : Type 0
AWayLeadsToEachFunction =
    (roots : List ℕ) (s : System) → IsNested roots s
    → (f : Function) → Contains s f
    → (root : ℕ) × Contains roots root × (bridges : List Function) × Leads s root bridges f.slot.bus

-- Along such a list buses rise: the buses that its bridges stand on, and the bus that it leads to, each above the one before it.
abbrev pub BusesRiseOnAWay : Type 0
BusesRiseOnAWay =
    (roots : List ℕ) (s : System) → IsNested roots s
    → (from : ℕ) (bridges : List Function) (to : ℕ) → Leads s from bridges to
    → IsStrictlyIncreasing (map (λ b. b.slot.bus) bridges ++ to ∷ [])

-- A bus is behind a bridge, by its number, exactly where the bridge is on the way to it.
abbrev pub BehindIsOnTheWay : Type 0
BehindIsOnTheWay =
    (roots : List ℕ) (s : System) → IsSystem s → IsNested roots s
    → (root : ℕ) (bridges : List Function) (bus : ℕ) → Contains roots root
    → Leads s root bridges bus
    → (b : Function) → Contains s b → IsTrue (is_bridge b) → Contains bridges b
    ↔ IsTrue (is_behind b bus)

-- Each bridge on the way to a function has a lower slot.
abbrev pub WaysComeFromLowerSlots : Type 0
WaysComeFromLowerSlots =
    (roots : List ℕ) (s : System) → IsSystem s → IsNested roots s
    → (from : ℕ) (bridges : List Function) (f : Function) → Contains s f
    → Leads s from bridges f.slot.bus
    → (b : Function) → Contains bridges b → slot_number b.slot < slot_number f.slot
