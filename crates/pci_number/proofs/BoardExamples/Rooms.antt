-- Which numbers bridges get where some are kept free.
use Rattle.std.proofs.Common.{◌≡◌, ℕ, List, [], ◌∷◌, refl, true, false, map}
use Rattle.std.specs.Bool.{◌==◌, if◌then◌else◌}
use Rattle.pci_spec.specs.Registers.{HEADER_TYPE}
use Rattle.pci_spec.specs.Number.{byte_at}
use Rattle.pci_number.specs.Board.{Nodes, NoMore}
use Rattle.pci_number.specs.Room.{last_behind, have_numbers, IsNumberedWithRoom}
use Rattle.pci_number.proofs.BoardExamples.Boards.{image, bridge, first_bridge, one, devices, single_bridge, tree, pair, fork, two_functions, row}

-- room for so many buses behind a bridge that is function 0 of more, and for none behind another
abbrev behind_first : ℕ → List ℕ → ℕ
behind_first spare image = if byte_at image HEADER_TYPE == 0x81 then spare else 0

two_functions_get_4 : IsNumberedWithRoom (behind_first 2) 0 0xff (two_functions 0 0) (two_functions 0x000103 0x000404)
two_functions_get_4 = record { same = refl; numbers = refl }

-- room up to the last bus alone, and then none is left for the second
no_room_above_the_last : IsNumberedWithRoom (behind_first 2) 0 2 (two_functions 0 0) (two_functions 0x000102 0)
no_room_above_the_last = record { same = refl; numbers = refl }

-- room comes after what is behind a bridge
abbrev nested : ℕ → ℕ → ℕ → Nodes
nested m n o = first_bridge 1 m (first_bridge 0 n one (bridge 0 1 o NoMore NoMore)) NoMore

nested_bridges_get_4 : IsNumberedWithRoom (behind_first 1) 0 0xff (nested 0 0 0) (nested 0x000105 0x010203 0x010404)
nested_bridges_get_4 = record { same = refl; numbers = refl }

-- no room, room for one too many, room behind the second alone, a number inside what is kept free, and
-- room before what is behind
wrong_rooms : map (have_numbers (behind_first 2) 0xff 0 0) (two_functions 0x000101 0x000202 ∷ two_functions 0x000104 0x000505 ∷ two_functions 0x000101 0x000204 ∷ two_functions 0x000103 0x000202 ∷ two_functions 0x000303 0x000404 ∷ []) ≡ false ∷ false ∷ false ∷ false ∷ false ∷ []
wrong_rooms = refl

wrong_nested_rooms : map (have_numbers (behind_first 1) 0xff 0 0) (nested 0x000105 0x010203 0x010404 ∷ nested 0x000104 0x010203 0x010404 ∷ nested 0x000104 0x010202 0x010303 ∷ nested 0x000105 0x000203 0x010404 ∷ []) ≡ true ∷ false ∷ false ∷ false ∷ []
wrong_nested_rooms = refl

-- where none is kept free
no_room : map (have_numbers (λ image. 0) 0xff 0 0) (devices ∷ single_bridge 0x000101 ∷ tree 0x000103 0x010202 0x010303 0x000404 ∷ pair 0x000101 0x000202 ∷ fork 0x000103 0x010202 0x010303 ∷ row 0x000103 0x010203 0x020303 ∷ []) ≡ true ∷ true ∷ true ∷ true ∷ true ∷ true ∷ []
no_room = refl

-- the primary and the secondary number mixed up, the second of a row short, a bridge's own number as its last
-- one, an old number above the last bus
no_room_and_wrong_numbers : map (have_numbers (λ image. 0) 3 0 0) (single_bridge 0x010001 ∷ row 0x000103 0x010202 0x020303 ∷ fork 0x000101 0x010202 0x010303 ∷ tree 0x000103 0x010202 0x010303 0x000505 ∷ tree 0x000103 0x010202 0x010303 0 ∷ []) ≡ false ∷ false ∷ false ∷ false ∷ true ∷ []
no_room_and_wrong_numbers = refl

-- after a bridge without a bus the next one has none either
none_left_for_the_next : map (have_numbers (λ image. 0) 0 0 0) (pair 0 0 ∷ pair 0 0x000505 ∷ pair 0 0x000101 ∷ []) ≡ true ∷ false ∷ false ∷ []
none_left_for_the_next = refl

-- the last bus behind is that of the last bridge with a bus, or the bus itself
last_buses : map (last_behind 0) (devices ∷ pair 0x000102 0x000304 ∷ pair 0x000102 0 ∷ pair 0 0 ∷ []) ≡ 0 ∷ 4 ∷ 2 ∷ 0 ∷ []
last_buses = refl
