-- What is kept free behind a bridge, as it is seen from the bus that the bridge is on.
use Rattle.std.specs.Prelude.{◌≡◌, ℕ, ◌+◌, ◌≤◌, min, true, List}
use Rattle.pci_spec.specs.Slot.{Slot}
use Rattle.pci_number.specs.Board.{Nodes, Node, Board}
use Rattle.pci_number.specs.Walk.{all_after}
use Rattle.pci_number.specs.SpareBuses.{has_hot_plug_slot, leads_to_slot, spare_room}
use Rattle.pci_number.specs.Seen.{View, code, IsSeen}

-- said of the image of the node at a slot
abbrev pub IsSaidThere : Board → Slot → (List ℕ → Type 0) → Type 0
IsSaidThere board slot P =
    (v : View) (high last : ℕ) (image : List ℕ) (behind others : Nodes)
    → board ≡ v.fill (Node slot.device slot.function image behind others)
    → IsSeen v slot.bus (code slot) high last → all_after slot.device slot.function others ≡ true
    → P image

-- Whether there is a hot-plug slot is for so many places of the list to say, from a place on.
abbrev pub IsLeftToSay : Board → Slot → ℕ → ℕ → Type 0
IsLeftToSay board slot count place =
    IsSaidThere board slot (λ image. has_hot_plug_slot image ≡ leads_to_slot image count place)

-- The last bus that a bridge leads to is the last in use behind it, or the last of those kept free.
abbrev pub IsLed : Board → Slot → ℕ → ℕ → ℕ → ℕ → Type 0
IsLed board slot taken last spare end =
    taken ≤ last
    → IsSaidThere board slot (λ image. end ≡ min last (taken + spare_room spare image))
