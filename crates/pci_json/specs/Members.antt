-- The members of objects, and those that several kinds of lines share.
use Rattle.std.specs.Prelude.{ℕ, ◌+◌, ◌-◌, ◌==◌, ◌||◌, Bool, true, List, [], ◌∷◌, ◌++◌, codes, decimal, fold, map, length, get_or, if◌then◌else◌}
use Rattle.std.specs.List.{before_first, after_first}
use Rattle.json.specs.Json.{Json, string, number, boolean, array, object, Items, no_items, item, Members, no_members, member}
use Rattle.json.specs.Token.{Token}
use Rattle.json.specs.Tree.{json_tokens}
use Rattle.pci_json.specs.Lines.{word, is_word, value_in_base, parts_of_text}

-- a member: its name and its value
abbrev pub Member : Type 0
Member = List ℕ × Json

abbrev pub members_of : List (List ℕ × Json) → Members
members_of [] = no_members
members_of (m ∷ ms) = member m.0 m.1 (members_of ms)

abbrev pub object_of : List (List ℕ × Json) → Json
object_of ms = object (members_of ms)

abbrev pub array_items : List Json → Items
array_items [] = no_items
array_items (j ∷ js) = item j (array_items js)

abbrev pub array_of : List Json → Json
array_of js = array (array_items js)

-- ---- their tokens, without the brackets

abbrev pub member_tokens : List ℕ × Json → List Token
member_tokens m = Token.key m.0 ∷ json_tokens m.1

abbrev pub add_member : List Token → List ℕ × Json → List Token
add_member tokens m = tokens ++ member_tokens m

-- these tokens, and those of the members behind them
abbrev pub with_members : List Token → List (List ℕ × Json) → List Token
with_members tokens members = fold add_member tokens members

abbrev pub add_item : List Token → Json → List Token
add_item tokens j = tokens ++ json_tokens j

abbrev pub with_items : List Token → List Json → List Token
with_items tokens items = fold add_item tokens items

-- ---- values of words

-- a register, an offset, an address or a value of a register: its digits behind 0x
abbrev pub hex : List ℕ → Json
hex digits = string (48 ∷ 120 ∷ digits)

abbrev pub json_count : ℕ → Json
json_count n = number (decimal n)

abbrev pub is_plus : ℕ → Bool
is_plus b = b == 43

-- what names a region of a function: a register, or `+` and the number of a line of the text behind --also
abbrev pub is_line : List ℕ → Bool
is_line name = is_plus (get_or name 0 0)

abbrev pub also_line_number : List ℕ → ℕ
also_line_number name = value_in_base 10 (after_first is_plus name)

abbrev pub register_or_line : List ℕ → List (List ℕ × Json)
register_or_line name =
    if is_line name then (codes "line", json_count (also_line_number name)) ∷ [] else (codes "register", hex name) ∷ []

abbrev pub slot_register_members : ℕ → List ℕ → List (List ℕ × Json)
slot_register_members n content = (codes "slot", string (word n content)) ∷ register_or_line (word (n + 1) content)

-- ---- what stands at the end of a region's line

-- where a line has a word behind so many words, the member of this name
abbrev pub flag_member : List ℕ → ℕ → List ℕ → List (List ℕ × Json)
flag_member name n line = if is_word n name line then (name, boolean true) ∷ [] else []

-- where a line has a word behind so many words
abbrev pub name_member : ℕ → List ℕ → List (List ℕ × Json)
name_member n line = if is_word n [] line then [] else (codes "name", string (word n line)) ∷ []

-- the part behind so many words is that of a told range
abbrev pub is_told : ℕ → List ℕ → Bool
is_told n line = is_word n (codes "told") line || is_word n (codes "held") line

-- the name of a told range, or `isa` of another region, whose part stands behind the first number of words
abbrev pub end_member : ℕ → ℕ → List ℕ → List (List ℕ × Json)
end_member part n line = if is_told part line then name_member n line else flag_member (codes "isa") n line

-- ---- a range F-L, or F alone: its first and last address, and how many they are

abbrev pub is_dash : ℕ → Bool
is_dash b = b == 45

abbrev pub digits_before_dash : List ℕ → List ℕ
digits_before_dash = before_first is_dash

abbrev pub digits_behind_dash : List ℕ → List ℕ
digits_behind_dash = after_first is_dash

-- the last address, of what stands before and behind the dash: the first one, where no dash follows
abbrev pub last_address : List ℕ → List ℕ → List ℕ
last_address first behind = if length behind == 0 then first else behind

abbrev pub last_address_digits : List ℕ → List ℕ
last_address_digits range = last_address (digits_before_dash range) (digits_behind_dash range)

abbrev pub size_of_range : List ℕ → ℕ
size_of_range range = value_in_base 16 (last_address_digits range) - value_in_base 16 (digits_before_dash range) + 1

abbrev pub range_members : List ℕ → List (List ℕ × Json)
range_members range =
    (codes "first", hex (digits_before_dash range)) ∷ (codes "last", hex (last_address_digits range))
    ∷ (codes "size", json_count (size_of_range range)) ∷ []

abbrev pub range_object : List ℕ → Json
range_object range = object_of (range_members range)

-- a range, or the word that stands in its place
abbrev pub opening : List ℕ → Json
opening range = if length (digits_behind_dash range) == 0 then string range else range_object range

-- the ranges that stand in a text with this byte between them
abbrev pub range_objects : ℕ → List ℕ → List Json
range_objects end text = map range_object (parts_of_text end text)
