-- Which bridges have a hot-plug slot, and which numbers they get where some are kept free behind it.
use Rattle.std.proofs.Common.{◌≡◌, ℕ, List, [], ◌∷◌, refl, true, false, map, set}
use Rattle.pci_number.specs.Board.{Nodes, NoMore, Node}
use Rattle.pci_number.specs.Room.{have_numbers, IsNumberedWithRoom}
use Rattle.pci_number.specs.SpareBuses.{has_hot_plug_slot, spare_room}
use Rattle.pci_number.proofs.BoardExamples.Boards.{image, bridge, one, two_functions}

-- an image with a list of one capability at 40h, with its ID and bytes 43h and 54h: Slot Implemented is bit 0 of the
-- one, Hot-Plug Capable bit 6 of the other
abbrev listed : ℕ → ℕ → ℕ → ℕ → ℕ → List ℕ
listed header numbers id flags slot =
    set (set (set (set (set (image header numbers) 6 0x10) 0x34 0x40) 0x40 id) 0x43 flags) 0x54 slot

-- a PCI Express port with a hot-plug slot, one whose slot isn't Hot-Plug Capable, one without a slot, and a
-- hot-plug controller; another capability is none of them, nor is a bridge without a list
slots : map has_hot_plug_slot (listed 1 0 0x10 1 0x40 ∷ listed 1 0 0x10 1 0x3f ∷ listed 1 0 0x10 0 0x40 ∷ listed 1 0 0x0c 0 0 ∷ listed 1 0 0x05 1 0x40 ∷ set (listed 1 0 0x10 1 0x40) 6 0 ∷ image 1 0 ∷ []) ≡ true ∷ false ∷ false ∷ true ∷ false ∷ false ∷ false ∷ []
slots = refl

-- one behind another capability, and behind a port without a slot; a list that leads back to itself has none
later_slots : map has_hot_plug_slot (set (set (set (listed 1 0 0x05 0 0) 0x41 0x80) 0x80 0x0c) 0x81 0 ∷ set (set (set (listed 1 0 0x10 0 0) 0x41 0x80) 0x80 0x0c) 0x81 0 ∷ set (listed 1 0 0x05 0 0) 0x41 0x40 ∷ set (listed 1 0 0x05 0 0) 0x41 0x3c ∷ []) ≡ true ∷ true ∷ false ∷ false ∷ []
later_slots = refl

-- a port with a hot-plug slot and a device behind it, and a bridge beside it
abbrev ports : ℕ → ℕ → Nodes
ports m n = Node 0x1c 0 (listed 0x81 m 0x10 1 0x40) one (bridge 0x1c 4 n NoMore NoMore)

ports_get_4 : IsNumberedWithRoom (spare_room 2) 0 0xff (ports 0 0) (ports 0x000103 0x000404)
ports_get_4 = record { same = refl; numbers = refl }

-- no room, and none but up to the last bus; none kept free, and none behind a bridge without a slot
other_rooms : map (have_numbers (spare_room 2) 0xff 0 0) (ports 0x000101 0x000202 ∷ ports 0x000102 0x000303 ∷ two_functions 0x000101 0x000202 ∷ two_functions 0x000103 0x000404 ∷ []) ≡ false ∷ false ∷ true ∷ false ∷ []
other_rooms = refl

up_to_the_last : map (have_numbers (spare_room 2) 2 0 0) (ports 0x000102 0 ∷ ports 0x000101 0x000202 ∷ []) ≡ true ∷ false ∷ []
up_to_the_last = refl

none_kept_free : map (have_numbers (spare_room 0) 0xff 0 0) (ports 0x000101 0x000202 ∷ ports 0x000103 0x000404 ∷ []) ≡ true ∷ false ∷ []
none_kept_free = refl
