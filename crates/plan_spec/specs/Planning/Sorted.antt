-- All items of a class in one list, in the order in which they are placed.
use Rattle.std.specs.Prelude.{◌≡◌, ℕ, ◌<◌, ◌⊎◌, ◌==◌, if◌then◌else◌, IsTrue, List}
use Rattle.std.specs.List.{AllPairs, flat_map, sum_by}
use Rattle.pci_spec.specs.Slot.{slot_number}
use Rattle.pci_spec.specs.Window.{WindowKind}
use Rattle.pci_spec.specs.System.{System, register_of}
use Rattle.pci_spec.specs.Bus.{is_root}
use Rattle.plan_spec.specs.Plan.{Pools}
use Rattle.plan_spec.specs.Place.{Item, own_items, comes_before}

-- the items of a class, in the order of slots and registers
abbrev pub all_items : System → Pools → WindowKind → List Item
all_items s pools c = flat_map (own_items s pools c) s

-- of a lower slot, or of a lower register of the same slot
abbrev pub StandsBefore : Item → Item → Type 0
StandsBefore i j =
    (slot_number i.function.slot < slot_number j.function.slot)
    ⊎ ((slot_number i.function.slot ≡ slot_number j.function.slot)
    × (register_of i.function i.part < register_of j.function j.part))

-- What is side by side is one group: the roots together, and each other bus. No function stands on bus 0 unless it is a root.
abbrev pub group_of : List ℕ → ℕ → ℕ
group_of roots bus = if is_root roots bus then 0 else bus

abbrev pub item_group : List ℕ → Item → ℕ
item_group roots i = group_of roots i.function.slot.bus

-- lower groups come first, and in a group what is placed first
abbrev pub Precedes : List ℕ → Item → Item → Type 0
Precedes roots i j =
    (item_group roots i < item_group roots j)
    ⊎ ((item_group roots i ≡ item_group roots j) × IsTrue (comes_before i j))

abbrev pub IsInOrder : List ℕ → List Item → Type 0
IsInOrder roots sorted = AllPairs (Precedes roots) sorted

-- the sizes of the items of a group together
abbrev pub group_sum : List ℕ → ℕ → List Item → ℕ
group_sum roots group items = sum_by (λ i. if item_group roots i == group then i.size else 0) items
