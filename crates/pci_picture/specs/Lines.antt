-- The lines of a map that are regions.
use Rattle.std.specs.Prelude.{ℕ, Bool, ◌==◌, ◌&&◌, ◌||◌, not, ◌+◌, ◌-◌, ◌*◌, List, [], ◌∷◌, take, drop, length, fold, slice_index, Option, Some, None, unwrap_or, nat_le, nat_lt, nat_eq, codes, if◌then◌else◌}
use Rattle.std.specs.List.{flat_map, filter, list_all, position_or_len, slice_get, slice_split, before_first, after_first}
use Rattle.std.specs.Cmp.Lexicographic.{pointwise}

abbrev pub is_blank_byte : ℕ → Bool
is_blank_byte b = b == 32

abbrev pub is_feed : ℕ → Bool
is_feed b = b == 10

abbrev pub is_dash_byte : ℕ → Bool
is_dash_byte b = b == 45

-- no line feed is in it
abbrev pub is_one_line : List ℕ → Bool
is_one_line line = list_all (λ b. not (is_feed b)) line

-- how many blanks a line begins with, and what stands behind them
abbrev pub leading_blanks : List ℕ → ℕ
leading_blanks line = position_or_len (λ b. not (is_blank_byte b)) line

abbrev pub unindented_line : List ℕ → List ℕ
unindented_line line = drop (leading_blanks line) line

-- ---- the words of a line, between blanks

abbrev pub is_nonempty_word : List ℕ → Bool
is_nonempty_word part = not (length part == 0)

unfoldable pub words_in_line : List ℕ → List (List ℕ)
words_in_line line = filter is_nonempty_word (slice_split is_blank_byte line)

-- the word at the index `n`, or nothing
abbrev pub nth_word : List (List ℕ) → ℕ → List ℕ
nth_word words n = unwrap_or (slice_get words n) []

abbrev pub says : List ℕ → List ℕ → Bool
says word name = pointwise nat_eq word name

-- ---- numbers in hex digits, slots and ranges

-- 0 to 9, and a to f
abbrev pub is_digit : ℕ → Bool
is_digit b = (nat_le 48 b && nat_le b 57) || (nat_le 97 b && nat_le b 102)

abbrev pub hex_digit_value : ℕ → ℕ
hex_digit_value b = if nat_le b 57 then b - 48 else b - 87

abbrev pub digit_of : ℕ → Option ℕ
digit_of b = if is_digit b then Some (hex_digit_value b) else None

-- one to 16 digits, and their number
abbrev pub is_number : List ℕ → Bool
is_number digits = is_nonempty_word digits && nat_le (length digits) 16 && list_all is_digit digits

abbrev pub next_hex : ℕ → ℕ → ℕ
next_hex n b = n * 16 + hex_digit_value b

abbrev pub hex_value : List ℕ → ℕ
hex_value digits = fold next_hex 0 digits

abbrev pub hex_number_of : List ℕ → Option ℕ
hex_number_of digits = if is_number digits then Some (hex_value digits) else None

-- `F-L`, where F is at most L
unfoldable pub is_range : List ℕ → Bool
is_range word =
    nat_lt (position_or_len is_dash_byte word) (length word)
    && is_number (before_first is_dash_byte word) && is_number (after_first is_dash_byte word)
    && nat_le (hex_value (before_first is_dash_byte word)) (hex_value (after_first is_dash_byte word))

-- two digits
unfoldable pub is_register : List ℕ → Bool
is_register word = (length word == 2) && is_digit (slice_index word 0) && is_digit (slice_index word 1)

-- `bb:dd.f`
unfoldable pub is_slot : List ℕ → Bool
is_slot word =
    (length word == 7) && (slice_index word 2 == 58) && (slice_index word 5 == 46)
    && is_register (take 2 word) && is_register (take 2 (drop 3 word)) && is_digit (slice_index word 6)

-- its number, in hex `bbddf`
unfoldable pub slot_number_of : List ℕ → ℕ
slot_number_of word = hex_value (take 2 word) * 4096 + hex_value (take 2 (drop 3 word)) * 16 + hex_digit_value (slice_index word 6)

abbrev pub names_register : List (List ℕ) → ℕ → Bool
names_register words at = is_slot (nth_word words at) && is_register (nth_word words (at + 1))

-- ---- ranges that are told beside registers

-- 0 to 9
abbrev pub is_decimal : ℕ → Bool
is_decimal b = nat_le 48 b && nat_le b 57

abbrev pub decimal_digit_value : ℕ → ℕ
decimal_digit_value b = b - 48

abbrev pub decimal_digit_of : ℕ → Option ℕ
decimal_digit_of b = if is_decimal b then Some (decimal_digit_value b) else None

abbrev pub next_decimal : ℕ → ℕ → ℕ
next_decimal n b = n * 10 + decimal_digit_value b

abbrev pub decimal_value : List ℕ → ℕ
decimal_value digits = fold next_decimal 0 digits

abbrev pub decimal_number : List ℕ → Option ℕ
decimal_number digits = if list_all is_decimal digits then Some (decimal_value digits) else None

-- `+n`, where n is a decimal number from 1 to 4096 with no zero before it
unfoldable pub is_told_number : List ℕ → Bool
is_told_number word =
    nat_le 2 (length word) && nat_le (length word) 5 && (slice_index word 0 == 43) && not (slice_index word 1 == 48)
    && list_all is_decimal (drop 1 word) && nat_le (decimal_value (drop 1 word)) 4096

abbrev pub names_told : List (List ℕ) → ℕ → Bool
names_told words at = is_slot (nth_word words at) && is_told_number (nth_word words (at + 1))

-- the part that words name from the third one on: `bar S r`, `bar pref S r`, `rom S r`, `window S r`, `told S +n`,
-- `told pref S +n`, `held S +n`, `held pref S +n` or `free`
unfoldable pub names_part : List (List ℕ) → Bool
names_part words =
    if says (nth_word words 2) (codes "bar")
    then names_register words (if says (nth_word words 3) (codes "pref") then 4 else 3)
    else (if says (nth_word words 2) (codes "rom") || says (nth_word words 2) (codes "window")
    then names_register words 3
    else (if says (nth_word words 2) (codes "told") || says (nth_word words 2) (codes "held")
    then names_told words (if says (nth_word words 3) (codes "pref") then 4 else 3)
    else says (nth_word words 2) (codes "free")))

-- a line `F-L N PART S r`, `F-L N PART S +n` or `F-L N free`, without the blanks before it
unfoldable pub is_region_line : List ℕ → Bool
is_region_line line = is_range (nth_word (words_in_line line) 0) && names_part (words_in_line line)

-- the line itself where it is a region, else no line
abbrev pub line_if_region : List ℕ → List (List ℕ)
line_if_region line = if is_region_line line then line ∷ [] else []

-- the same of a line with at least two blanks before it, without these; no line where it has fewer
abbrev pub indented_if_region : List ℕ → List (List ℕ)
indented_if_region line = if nat_lt (leading_blanks line) 2 then [] else line_if_region (unindented_line line)

-- the regions of a map's text, in their order
abbrev pub region_lines : List ℕ → List (List ℕ)
region_lines map = flat_map indented_if_region (slice_split is_feed map)

-- a line is one of a told range, or of a range that somebody holds
abbrev pub is_told_line : List ℕ → Bool
is_told_line line = says (nth_word (words_in_line line) 2) (codes "told") || says (nth_word (words_in_line line) 2) (codes "held")
