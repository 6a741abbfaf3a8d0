-- What the walk over a bus leaves, as it is seen from that bus.
use Rattle.std.specs.Prelude.{◌≡◌, ℕ, true, Option, Some}
use Rattle.pci_spec.specs.Slot.{Slot}
use Rattle.pci_number.specs.Board.{Nodes, Board}
use Rattle.pci_number.specs.Walk.{is_walkable}
use Rattle.pci_number.specs.Numbered.{without_numbers}
use Rattle.pci_number.specs.Room.{last_behind, have_numbers}
use Rattle.pci_number.specs.SpareBuses.{spare_room}
use Rattle.pci_number.specs.NoBus.{first_slot, first_without}
use Rattle.pci_number.specs.Seen.{View, IsSeen, IsClosed}
use Rattle.pci_number.specs.declared.walk.Walk.{Walk}

-- What a walk over a bus sets out with: the bus, the last bus number that there is, how many are
-- kept free behind a hot-plug slot, and how far the walk is by then.
pub record Outset : Type 0 where
  pub bus : ℕ
  pub last : ℕ
  pub spare : ℕ
  pub start : Walk

abbrev pub outset : ℕ → ℕ → ℕ → Walk → Outset
outset bus last spare start = record { bus = bus; last = last; spare = spare; start = start }

-- the first bridge without a number, where one more has none
abbrev pub named : Option Slot → Slot → Option Slot
named without slot = first_slot without (Some slot)

-- The bridges on a bus and behind it have their numbers, with so many kept free, and all else is
-- kept.
abbrev pub IsBusNumbered : Board → Outset → Walk → Board → Type 0
IsBusNumbered before o walk after =
    (v : View) (nodes : Nodes) → before ≡ v.fill nodes
    → IsSeen v o.bus 0 o.start.taken o.last → is_walkable nodes ≡ true → IsClosed nodes
    → (whole : Nodes) × (after ≡ v.fill whole) × (without_numbers whole ≡ without_numbers nodes)
    × (have_numbers (spare_room o.spare) o.last o.bus o.start.taken whole ≡ true)
    × (walk.taken ≡ last_behind o.start.taken whole)
    × (walk.without ≡ first_slot o.start.without (first_without o.bus whole))

-- All but bus numbers is kept.
abbrev pub IsBusLeft : Board → Outset → Board → Type 0
IsBusLeft before o after =
    (v : View) (nodes : Nodes) → before ≡ v.fill nodes
    → IsSeen v o.bus 0 o.start.taken o.last → is_walkable nodes ≡ true → IsClosed nodes
    → (whole : Nodes) × (after ≡ v.fill whole) × (without_numbers whole ≡ without_numbers nodes)
