-- The lines of a listing, of a map, and of writes (docs/FORMATS.md, "Listing", "Address map" and "Planning").
use Rattle.std.specs.Prelude.{ℕ, ◌==◌, ◌||◌, Bool, true, List, [], ◌∷◌, ◌++◌, length, codes, if◌then◌else◌}
use Rattle.std.specs.List.{before_first, after_first}
use Rattle.json.specs.Json.{Json, string, boolean}
use Rattle.pci_json.specs.Lines.{word, is_word, behind_words, value_in_base}
use Rattle.pci_json.specs.Members.{array_of, hex, json_count, slot_register_members, end_member, digits_behind_dash, range_members}

-- ---- a listing

-- S type T vendor V device D class C command X status X
abbrev pub header_members : List ℕ → List (List ℕ × Json)
header_members line =
    (codes "slot", string (word 0 line)) ∷ (codes "type", json_count (value_in_base 10 (word 2 line)))
    ∷ (codes "vendor", hex (word 4 line)) ∷ (codes "device", hex (word 6 line)) ∷ (codes "class", hex (word 8 line))
    ∷ (codes "command", hex (word 10 line)) ∷ (codes "status", hex (word 12 line)) ∷ []

-- bar r KIND F-L, or bar r KIND pref F-L: what stands behind KIND
abbrev pub bar_range_place : List ℕ → ℕ
bar_range_place rest = if is_word 0 (codes "pref") rest then 1 else 0

abbrev pub bar_range_members : List ℕ → List (List ℕ × Json)
bar_range_members rest =
    (codes "prefetchable", boolean (is_word 0 (codes "pref") rest)) ∷ range_members (word (bar_range_place rest) rest)

abbrev pub bar_members : List ℕ → List (List ℕ × Json)
bar_members line =
    (codes "register", hex (word 1 line)) ∷ (codes "kind", string (word 2 line)) ∷ bar_range_members (behind_words 3 line)

-- rom r on F-L
abbrev pub rom_members : List ℕ → List (List ℕ × Json)
rom_members line =
    (codes "register", hex (word 1 line)) ∷ (codes "on", boolean (is_word 2 (codes "on") line)) ∷ range_members (word 3 line)

-- bus P S B
abbrev pub bus_members : List ℕ → List (List ℕ × Json)
bus_members line =
    (codes "primary", string (word 1 line)) ∷ (codes "secondary", string (word 2 line))
    ∷ (codes "subordinate", string (word 3 line)) ∷ []

-- window r KIND F-L, or none or closed
abbrev pub state_members : List ℕ → List (List ℕ × Json)
state_members window =
    if length (digits_behind_dash window) == 0 then (codes "state", string window) ∷ []
    else (codes "state", string (codes "open")) ∷ range_members window

abbrev pub window_members : List ℕ → List (List ℕ × Json)
window_members line =
    (codes "register", hex (word 1 line)) ∷ (codes "kind", string (word 2 line)) ∷ state_members (word 3 line)

-- cap p KIND and what it says
abbrev pub capability_members : List ℕ → List (List ℕ × Json)
capability_members line =
    (codes "at", hex (word 1 line)) ∷ (codes "kind", string (word 2 line)) ∷ (codes "text", string (behind_words 3 line)) ∷ []

-- ---- a map: F-L N free, F-L N PART S r, or F-L N PART pref S r; and isa behind a window, a name behind a told range;
-- or unclaimed S, of a bridge that takes what no region of its bus claims

-- what stands behind PART
abbrev pub kind_members : List ℕ → List (List ℕ × Json)
kind_members rest =
    if is_word 0 (codes "pref") rest then (codes "prefetchable", boolean true) ∷ slot_register_members 1 rest
    else slot_register_members 0 rest

abbrev pub free_members : List ℕ → List (List ℕ × Json)
free_members line = (codes "part", string (codes "free")) ∷ range_members (word 0 line)

-- where the end of the line stands, of what stands there from PART on
abbrev pub end_place : List ℕ → ℕ
end_place part = if is_word 1 (codes "pref") part then 4 else 3

-- the line, and what stands there from PART on
abbrev pub sits_members : List ℕ → List ℕ → List (List ℕ × Json)
sits_members line part =
    (codes "part", string (word 0 part))
    ∷ (kind_members (behind_words 1 part) ++ (range_members (word 0 line) ++ end_member 0 (end_place part) part))

abbrev pub is_unclaimed_line : List ℕ → Bool
is_unclaimed_line line = is_word 0 (codes "unclaimed") line

abbrev pub taking_members : List ℕ → List (List ℕ × Json)
taking_members line = (codes "part", string (codes "unclaimed")) ∷ (codes "slot", string (word 1 line)) ∷ []

abbrev pub outer_members : List ℕ → List (List ℕ × Json)
outer_members line =
    if is_unclaimed_line line then taking_members line
    else (if is_word 0 (codes "free") (behind_words 2 line) then free_members line else sits_members line (behind_words 2 line))

-- what a window or such a bridge has inside
abbrev pub has_inside : List ℕ → Bool
has_inside line = is_unclaimed_line line || is_word 2 (codes "window") line

abbrev pub inside_members : List ℕ → List Json → List (List ℕ × Json)
inside_members line inside = if has_inside line then (codes "inside", array_of inside) ∷ [] else []

abbrev pub place_members : List ℕ → List Json → List (List ℕ × Json)
place_members line inside = outer_members line ++ inside_members line inside

-- bus bb SPACE
abbrev pub root_members : List ℕ → List Json → List (List ℕ × Json)
root_members line regions =
    (codes "bus", string (word 1 line)) ∷ (codes "space", string (word 2 line)) ∷ (codes "regions", array_of regions) ∷ []

-- ---- a write: S oo.w v

abbrev pub is_point : ℕ → Bool
is_point b = b == 46

abbrev pub write_members : List ℕ → List (List ℕ × Json)
write_members line =
    (codes "slot", string (word 0 line)) ∷ (codes "offset", hex (before_first is_point (word 1 line)))
    ∷ (codes "width", json_count (value_in_base 10 (after_first is_point (word 1 line)))) ∷ (codes "value", hex (word 2 line)) ∷ []
