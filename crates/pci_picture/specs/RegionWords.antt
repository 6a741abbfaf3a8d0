-- The words that tell a region in its box.
use Rattle.std.specs.Prelude.{ℕ, Bool, true, false, not, ◌&&◌, ◌+◌, ◌/◌, ◌%◌, List, [], ◌∷◌, ◌++◌, codes, drop, if◌then◌else◌}
use Rattle.std.specs.List.{filter, flat_map, list_all}
use Rattle.pci_picture.specs.Lines.{is_decimal, is_nonempty_word, nth_word, says}
use Rattle.pci_picture.specs.Named.{words_of_buses}
use Rattle.pci_picture.specs.RegionNames.{name_word, register_word}
use Rattle.pci_picture.specs.Roots.{Listed}
use Rattle.pci_picture.specs.Slots.{slot_word}
use Rattle.pci_picture.specs.Titles.{buses_if_listed, function_of_region, name_if_listed, says_free, says_window}

-- ---- what a region is

-- how many addresses it has: the word of its size, and the unit `B` behind digits alone
unfoldable pub words_of_size : List ℕ → List ℕ
words_of_size size = if list_all is_decimal size then size ++ codes " B" else size

-- slot, register and size, as `00:1f.2 24, 2K`
unfoldable pub words_of_region : List (List ℕ) → List ℕ
words_of_region words = slot_word words ++ codes " " ++ register_word words ++ codes ", " ++ words_of_size (nth_word words 1)

-- the name that is told of it, else that of its function, where it is listed
unfoldable pub called_by : List Listed → List (List ℕ) → List ℕ
called_by functions words = if is_nonempty_word (name_word words) then name_word words else name_if_listed (function_of_region functions words)

-- somebody may hold a range of a function that isn't listed: then it isn't called anything
abbrev pub is_uncalled : List Listed → List (List ℕ) → Bool
is_uncalled functions words = says (nth_word words 2) (codes "held") && not (is_nonempty_word (called_by functions words))

-- a comma, and what the region is called
unfoldable pub words_called : List Listed → List (List ℕ) → List ℕ
words_called functions words = if is_uncalled functions words then [] else codes ", " ++ called_by functions words

-- ---- the faults that name a region

-- the numbers, from 60 to 63, of the faults that name the region with a key, each once
unfoldable pub numbers_naming : (ℕ → ℕ → ℕ → Bool) → ℕ → List ℕ
numbers_naming named key = filter (λ number. named number number key) (60 ∷ 61 ∷ 62 ∷ 63 ∷ [])

-- there is a number
abbrev pub any_number : List ℕ → Bool
any_number [] = false
any_number (number ∷ numbers) = true

-- a number in two digits
abbrev pub fault_digits : ℕ → List ℕ
fault_digits number = (48 + number / 10) ∷ (48 + number % 10) ∷ []

-- a blank between two numbers, and a colon and a blank behind the last one
unfoldable pub words_of_numbers : List ℕ → List ℕ
words_of_numbers numbers = drop 1 (flat_map (λ number. 32 ∷ fault_digits number) numbers) ++ (if any_number numbers then codes ": " else [])

-- ---- all that stands in a box

-- the first line, by the numbers of the faults that name the region: of free addresses their size, of a window what it is, and of
-- any other region these numbers, what it is, and what it is called
unfoldable pub first_words : List ℕ → List Listed → List (List ℕ) → List ℕ
first_words numbers functions words =
    if says_free words
    then codes "free " ++ words_of_size (nth_word words 1)
    else (if says_window words
    then words_of_region words
    else words_of_numbers numbers ++ words_of_region words ++ words_called functions words)

-- its class: what a fault names is red
unfoldable pub class_of_first : List ℕ → List (List ℕ) → List ℕ
class_of_first numbers words =
    if says_free words
    then codes "quiet"
    else (if says_window words then codes "bold" else (if any_number numbers then codes "alarm" else []))

-- the second line in the box of a window: the buses behind it
abbrev pub second_words : List Listed → List (List ℕ) → List ℕ
second_words functions words = codes "to " ++ words_of_buses (buses_if_listed (function_of_region functions words))

-- the line in the box of a region that is off: what it is, its range, and what it is called
unfoldable pub words_if_off : List Listed → List (List ℕ) → List ℕ
words_if_off functions words = words_of_region words ++ codes ", " ++ nth_word words 0 ++ words_called functions words
