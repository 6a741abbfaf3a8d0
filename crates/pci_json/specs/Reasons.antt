-- The lines behind a fault's line, and what is off (docs/FORMATS.md, "All faults" and "Reasons with what is given").
use Rattle.std.specs.Prelude.{ℕ, ◌+◌, ◌||◌, Bool, List, [], ◌∷◌, ◌++◌, codes, if◌then◌else◌}
use Rattle.json.specs.Json.{Json, string, boolean, null}
use Rattle.pci_json.specs.Lines.{word, is_word, behind_words}
use Rattle.pci_json.specs.Members.{object_of, array_of, json_count, slot_register_members, flag_member, end_member, range_members, opening, range_objects}

-- S r PART F-L N behind so many words; PART is two words, and may be followed by `pref`, and N by `isa`. Of a told range
-- r is `+n`, and N may be followed by its name
abbrev pub range_place : ℕ → List ℕ → ℕ
range_place n line = if is_word (n + 4) (codes "pref") line then n + 5 else n + 4

-- S r PART behind so many words
abbrev pub region_part_members : ℕ → List ℕ → List (List ℕ × Json)
region_part_members n line =
    slot_register_members n line ++ (codes "part", string (word (n + 2) line)) ∷ (codes "space", string (word (n + 3) line)) ∷ []

abbrev pub region_members : ℕ → List ℕ → List (List ℕ × Json)
region_members n line =
    region_part_members n line ++ (codes "prefetchable", boolean (is_word (n + 4) (codes "pref") line))
    ∷ (range_members (word (range_place n line) line) ++ end_member (n + 2) (range_place n line + 2) line)

-- S 3e vga SPACE F-L,F-L of each 1K, or S 04 snoop io F,F-L of each 1K: the last three words where each KB has these ports
abbrev pub each_members : List ℕ → List (List ℕ × Json)
each_members line = if is_word 6 (codes "of") line then (codes "each", json_count 1024) ∷ [] else []

abbrev pub fixed_members : List ℕ → List (List ℕ × Json)
fixed_members line =
    region_part_members 1 line ++ (codes "ranges", array_of (range_objects 44 (word 5 line))) ∷ each_members line

-- a legacy part or a palette part, whose addresses no register tells
abbrev pub has_fixed_addresses : List ℕ → Bool
has_fixed_addresses line =
    is_word 3 (codes "vga") line || (is_word 3 (codes "vga16") line
    || (is_word 3 (codes "snoop") line || is_word 3 (codes "snoop16") line))

-- needs, first, second: a region, or such a part
abbrev pub claim_members : List ℕ → List (List ℕ × Json)
claim_members line = if has_fixed_addresses line then fixed_members line else region_members 1 line

-- bridge S on SPACE W, or behind SPACE W pref W; then isa, unclaimed, and vga or vga16 at the end
abbrev pub prefetchable_window : List ℕ → List (List ℕ × Json)
prefetchable_window line = if is_word 5 (codes "pref") line then (codes "pref", opening (word 6 line)) ∷ [] else []

abbrev pub unclaimed_place : List ℕ → ℕ
unclaimed_place line =
    if is_word 5 (codes "pref") line then 7 else if is_word 5 (codes "isa") line then 6 else 5

abbrev pub legacy_place : List ℕ → ℕ
legacy_place line =
    if is_word (unclaimed_place line) (codes "unclaimed") line then unclaimed_place line + 1 else unclaimed_place line

abbrev pub legacy_word : List ℕ → List (List ℕ × Json)
legacy_word line =
    if is_word (legacy_place line) [] line then [] else (codes "legacy", string (word (legacy_place line) line)) ∷ []

abbrev pub way_members : List ℕ → List (List ℕ × Json)
way_members line = (word 3 line, opening (word 4 line)) ∷ prefetchable_window line

-- the words behind a bridge's windows
abbrev pub bridge_words : List ℕ → List (List ℕ × Json)
bridge_words line = flag_member (codes "isa") 5 line ++ (flag_member (codes "unclaimed") (unclaimed_place line) line ++ legacy_word line)

abbrev pub bridge_members : List ℕ → List (List ℕ × Json)
bridge_members line =
    (codes "slot", string (word 1 line)) ∷ (codes "on", boolean (is_word 2 (codes "on") line))
    ∷ (codes "windows", object_of (way_members line))
    ∷ bridge_words line

-- host SPACE F-L .., or host SPACE none
abbrev pub host_ranges : List ℕ → List Json
host_ranges line = if is_word 2 (codes "none") line then [] else range_objects 32 (behind_words 2 line)

-- fits F-L N, fits none, or fits unknown
abbrev pub fits_value : List ℕ → Json
fits_value line = if is_word 1 (codes "none") line then null else opening (word 1 line)
