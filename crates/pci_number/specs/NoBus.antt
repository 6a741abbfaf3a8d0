-- The first bridge that got no bus number, and how many bridges want one.
use Rattle.std.specs.Prelude.{ℕ, ◌+◌, if◌then◌else◌, Option, Some, None}
use Rattle.pci_spec.specs.Slot.{Slot}
use Rattle.pci_spec.specs.Header.{secondary_bus}
use Rattle.pci_number.specs.Board.{Nodes, NoMore, Node, is_type_1}
use Rattle.pci_number.specs.Walk.{has_bus}

-- the first of two, or the second where there is no first
abbrev pub first_slot : Option Slot → Option Slot → Option Slot
first_slot (Some slot) other = Some slot
first_slot None other = other

-- the first bridge in the order of the walk that has no bus on its other side, of those on a bus
-- and behind it
abbrev pub first_without : ℕ → Nodes → Option Slot
first_without bus NoMore = None
first_without bus (Node device function image behind others) =
    first_slot (if has_bus image then first_without (secondary_bus image) behind
    else if is_type_1 image then Some (record { bus = bus; device = device; function = function })
    else None) (first_without bus others)

-- how many bridges there are on a bus and behind it
abbrev pub bridges : Nodes → ℕ
bridges NoMore = 0
bridges (Node device function image behind others) =
    if is_type_1 image then 1 + bridges behind + bridges others else bridges others
