-- Of which bus and which space a region of a map is.
use Rattle.std.specs.Prelude.{◌≡◌, ℕ, Bool, ◌==◌, ◌||◌, ◌/◌, ◌%◌, List, [], take, codes, if◌then◌else◌}
use Rattle.std.specs.List.{position_or_len}
use Rattle.pci_picture.specs.Lines.{hex_value, is_dash_byte, nth_word, says, words_in_line}
use Rattle.pci_picture.specs.Marks.{key_of_region}

-- ---- the numbers of slots and keys

-- the bus of a slot's number `bbddf`
unfoldable pub bus_of_slot : ℕ → ℕ
bus_of_slot slot = slot / 4096 % 256

-- the slot's number of a key
unfoldable pub slot_of_key : ℕ → ℕ
slot_of_key key = key / 65536 % 4294967296

-- ---- the slot that a line names

-- it stands behind the name of the part, and behind `pref` where that follows; free addresses have none
unfoldable pub slot_word : List (List ℕ) → List ℕ
slot_word words =
    if says (nth_word words 2) (codes "rom") || says (nth_word words 2) (codes "window")
    then nth_word words 3
    else (if says (nth_word words 2) (codes "free")
    then []
    else nth_word words (if says (nth_word words 3) (codes "pref") then 4 else 3))

-- the bus of a slot `bb:dd.f`, and 0 of no slot
abbrev pub bus_of_word : List ℕ → ℕ
bus_of_word word = hex_value (take 2 word)

unfoldable pub bus_of_line : List ℕ → ℕ
bus_of_line line = bus_of_word (slot_word (words_in_line line))

-- the addresses of a line have so many digits
abbrev pub digits_of_word : List ℕ → ℕ
digits_of_word word = position_or_len is_dash_byte word

-- addresses in I/O space have 8 digits
unfoldable pub is_io_line : List ℕ → Bool
is_io_line line = digits_of_word (nth_word (words_in_line line) 0) == 8

-- a key is that of a line, and the addresses of the line have so many digits
pub record IsOfLine (line : List ℕ) (key digits : ℕ) : Type 0 where
  pub key_is : key ≡ key_of_region (words_in_line line)
  pub bus : bus_of_slot (slot_of_key key) ≡ bus_of_line line
  pub digits_are : digits ≡ digits_of_word (nth_word (words_in_line line) 0)
