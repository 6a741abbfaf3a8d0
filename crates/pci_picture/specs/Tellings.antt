-- The ranges that the faults of a section tell.
use Rattle.std.specs.Prelude.{ℕ, Bool, false, ◌==◌, ◌&&◌, ◌-◌, Option, Some, None, List, [], ◌∷◌, ◌++◌, length, nat_eq, codes, slice_index_or, if◌then◌else◌}
use Rattle.std.specs.List.{after_first, before_first, filter, flat_map, list_any, slice_get, starts_with}
use Rattle.pci_picture.specs.Heights.{AddressRange}
use Rattle.pci_picture.specs.Lines.{hex_value, is_dash_byte, is_range, nth_word, words_in_line}
use Rattle.pci_picture.specs.Marks.{key_of_region, keys_of_fault}
use Rattle.pci_picture.specs.Said.{FaultSaid}
use Rattle.pci_picture.specs.Slots.{digits_of_word}

-- ---- which regions a fault names

-- the keys of those that its first line names
abbrev pub keys_named : FaultSaid → List ℕ
keys_named fault = keys_of_fault fault.number (words_in_line (slice_index_or fault.lines 0 []))

-- a key is that of one of some lines
abbrev pub is_key_here : List (List ℕ) → ℕ → Bool
is_key_here lines key = list_any (λ line. key_of_region (words_in_line line) == key) lines

-- a fault names the region of one of some lines
abbrev pub is_about : List (List ℕ) → FaultSaid → Bool
is_about lines fault = list_any (is_key_here lines) (keys_named fault)

-- the last one of some keys
abbrev pub last_key : List ℕ → Option ℕ
last_key keys = slice_get keys (length keys - 1)

abbrev pub is_here : List (List ℕ) → Option ℕ → Bool
is_here lines None = false
is_here lines (Some key) = is_key_here lines key

-- the region that a fault names last is that of one of some lines
abbrev pub moves_here : List (List ℕ) → FaultSaid → Bool
moves_here lines fault = is_here lines (last_key (keys_named fault))

-- ---- the range of a line

-- how many digits the addresses of the first line have
abbrev pub digits_of_lines : List (List ℕ) → ℕ
digits_of_lines lines = digits_of_word (nth_word (words_in_line (slice_index_or lines 0 [])) 0)

-- the two addresses of a word `F-L`
abbrev pub range_of_word : List ℕ → AddressRange
range_of_word word = record { first = hex_value (before_first is_dash_byte word); last = hex_value (after_first is_dash_byte word) }

-- they are a range where the first one is not above the last one and has so many digits
abbrev pub range_with_digits : ℕ → List ℕ → List AddressRange
range_with_digits digits word = if is_range word && (digits_of_word word == digits) then range_of_word word ∷ [] else []

-- the range that a line tells by its second word
abbrev pub range_in_line : ℕ → List ℕ → List AddressRange
range_in_line digits line = range_with_digits digits (nth_word (words_in_line line) 1)

-- the same of a line that begins with some bytes
abbrev pub range_behind : List ℕ → ℕ → List ℕ → List AddressRange
range_behind begin digits line = if starts_with nat_eq line begin then range_in_line digits line else []

-- ---- the ranges that faults tell

-- the shared ranges that a fault tells
abbrev pub shared_by : ℕ → FaultSaid → List AddressRange
shared_by digits fault = flat_map (range_behind (codes "shared") digits) fault.lines

-- the ranges where the region fits that a fault names last, if this is the region of one of some lines
abbrev pub fits_by : ℕ → List (List ℕ) → FaultSaid → List AddressRange
fits_by digits lines fault = if moves_here lines fault then flat_map (range_behind (codes "fits ") digits) fault.lines else []

-- the ranges that faults tell of some lines: each fault counts that names the region of one of these. First stand all shared ranges,
-- then all where something fits. Their addresses have as many digits as those of the first line
abbrev pub ranges_of_faults : List FaultSaid → List (List ℕ) → List AddressRange
ranges_of_faults faults lines =
    flat_map (shared_by (digits_of_lines lines)) (filter (is_about lines) faults)
    ++ flat_map (fits_by (digits_of_lines lines) lines) (filter (is_about lines) faults)
