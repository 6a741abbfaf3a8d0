-- A fault's members: its number, its name, its line, and what its line names (docs/FORMATS.md, "Verdicts").
use Rattle.std.specs.Prelude.{ℕ, ◌+◌, ◌==◌, ◌||◌, List, [], ◌∷◌, ◌++◌, codes, if◌then◌else◌}
use Rattle.json.specs.Json.{Json, string}
use Rattle.pci_json.specs.Lines.{word, is_word, value_in_base}
use Rattle.pci_json.specs.Members.{object_of, array_of, hex, json_count, slot_register_members}

abbrev pub space_and_address : ℕ → List ℕ → List (List ℕ × Json)
space_and_address n line = (codes "space", string (word n line)) ∷ (codes "address", hex (word (n + 1) line)) ∷ []

abbrev pub two_regions : ℕ → List ℕ → List (List ℕ × Json)
two_regions n line =
    (codes "regions", array_of (object_of (slot_register_members n line) ∷ object_of (slot_register_members (n + 2) line) ∷ [])) ∷ []

-- 60 Unreached S r SPACE A bridge B
abbrev pub unreached_members : List ℕ → List (List ℕ × Json)
unreached_members line =
    slot_register_members 2 line ++ (space_and_address 4 line ++ (codes "bridge", string (word 7 line)) ∷ [])

-- 61 Clash bus bb SPACE A S r S r
abbrev pub clash_members : List ℕ → List (List ℕ × Json)
clash_members line = (codes "bus", string (word 3 line)) ∷ (space_and_address 4 line ++ two_regions 6 line)

-- 62 Split SPACE A S r S r
abbrev pub split_members : List ℕ → List (List ℕ × Json)
split_members line = space_and_address 2 line ++ two_regions 4 line

-- 63 Outside S r SPACE A
abbrev pub outside_members : List ℕ → List (List ℕ × Json)
outside_members line = slot_register_members 2 line ++ space_and_address 4 line

-- 72 NoRoom CLASS, and of `settle` S r SIZE ALIGN, or S r
abbrev pub amount_members : List ℕ → List (List ℕ × Json)
amount_members line =
    if is_word 5 [] line then []
    else (codes "size", json_count (value_in_base 16 (word 5 line))) ∷ (codes "align", json_count (value_in_base 16 (word 6 line))) ∷ []

abbrev pub part_members : List ℕ → List (List ℕ × Json)
part_members line = if is_word 3 [] line then [] else slot_register_members 3 line ++ amount_members line

abbrev pub no_room_members : List ℕ → List (List ℕ × Json)
no_room_members line = (codes "class", string (word 2 line)) ∷ part_members line

-- the others have S, or S r
abbrev pub register_members : List ℕ → List (List ℕ × Json)
register_members line = if is_word 3 [] line then [] else (codes "register", hex (word 3 line)) ∷ []

abbrev pub slot_members : List ℕ → List (List ℕ × Json)
slot_members line = (codes "slot", string (word 2 line)) ∷ register_members line

-- what the line of the fault with this number names: 70 and 77 name nothing, and 75 Told S +n a line
abbrev pub named_members : ℕ → List ℕ → List (List ℕ × Json)
named_members number line =
    if number == 60 then unreached_members line
    else (if number == 61 then clash_members line
    else (if number == 62 then split_members line
    else (if number == 63 then outside_members line
    else (if number == 70 || number == 77 then []
    else (if number == 72 then no_room_members line
    else (if number == 75 then slot_register_members 2 line
    else slot_members line))))))

abbrev pub fault_number_in_line : List ℕ → ℕ
fault_number_in_line line = value_in_base 10 (word 0 line)

abbrev pub fault_members : List ℕ → List (List ℕ × Json)
fault_members line =
    (codes "number", json_count (fault_number_in_line line)) ∷ (codes "name", string (word 1 line)) ∷ (codes "text", string line)
    ∷ named_members (fault_number_in_line line) line
