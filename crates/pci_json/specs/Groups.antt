-- The lines behind a line, and what they add to its object.
use Rattle.std.specs.Prelude.{ℕ, ◌||◌, Bool, true, false, List, [], ◌∷◌, ◌++◌, codes, flat_map, if◌then◌else◌}
use Rattle.std.specs.List.{list_any}
use Rattle.json.specs.Json.{Json}
use Rattle.pci_json.specs.declared.group.Kind.{Kind}
use Rattle.pci_json.specs.declared.group.Kind.TheVariants.{Missed, Shared, Bar, Window, Capability}
use Rattle.pci_json.specs.Lines.{word, is_word, is_inner, content_of}
use Rattle.pci_json.specs.Members.{object_of, array_of, range_members}
use Rattle.pci_json.specs.Faults.{fault_members}
use Rattle.pci_json.specs.Reasons.{claim_members, bridge_members, host_ranges, fits_value}
use Rattle.pci_json.specs.Listings.{header_members, bar_members, rom_members, bus_members, window_members, capability_members}

-- the contents of the indented lines that come first
abbrev pub inner_of : List (List ℕ) → List (List ℕ)
inner_of [] = []
inner_of (line ∷ lines) = if is_inner line then content_of line ∷ inner_of lines else []

abbrev pub has_any : List (List ℕ) → Bool
has_any [] = false
has_any (line ∷ lines) = true

-- ---- lines of which an object has a list

-- the first word of such a line
abbrev pub kind_word : Kind → List ℕ
kind_word Missed = codes "missed"
kind_word Shared = codes "shared"
kind_word Bar = codes "bar"
kind_word Window = codes "window"
kind_word Capability = codes "cap"

-- the name of the list
abbrev pub list_name : Kind → List ℕ
list_name Missed = codes "missed"
list_name Shared = codes "shared"
list_name Bar = codes "bars"
list_name Window = codes "windows"
list_name Capability = codes "capabilities"

abbrev pub item_members : Kind → List ℕ → List (List ℕ × Json)
item_members Missed line = range_members (word 1 line)
item_members Shared line = range_members (word 1 line)
item_members Bar line = bar_members line
item_members Window line = window_members line
item_members Capability line = capability_members line

-- the item of a line, if it is of that kind
abbrev pub item_on_line : Kind → List ℕ → List Json
item_on_line kind line = if is_word 0 (kind_word kind) line then object_of (item_members kind line) ∷ [] else []

abbrev pub items_of_kind : Kind → List (List ℕ) → List Json
items_of_kind kind lines = flat_map (item_on_line kind) lines

abbrev pub has_listed : Kind → List (List ℕ) → Bool
has_listed kind lines = list_any (is_word 0 (kind_word kind)) lines

abbrev pub list_member : Kind → List (List ℕ) → List (List ℕ × Json)
list_member kind lines = (list_name kind, array_of (items_of_kind kind lines)) ∷ []

-- the list, where it has an item
abbrev pub optional_list : Kind → List (List ℕ) → List (List ℕ × Json)
optional_list kind lines = if has_listed kind lines then list_member kind lines else []

-- ---- lines that are a member each, named by their first word

abbrev pub is_claim : List ℕ → Bool
is_claim line = is_word 0 (codes "needs") line || (is_word 0 (codes "first") line || is_word 0 (codes "second") line)

abbrev pub single_members : List ℕ → List (List ℕ × Json)
single_members line =
    if is_claim line then (word 0 line, object_of (claim_members line)) ∷ []
    else (if is_word 0 (codes "bridge") line then (codes "bridge", object_of (bridge_members line)) ∷ []
    else (if is_word 0 (codes "host") line then (codes "host", array_of (host_ranges line)) ∷ []
    else (if is_word 0 (codes "fits") line then (codes "fits", fits_value line) ∷ []
    else (if is_word 0 (codes "rom") line then (codes "rom", object_of (rom_members line)) ∷ []
    else (if is_word 0 (codes "bus") line then (codes "bus", object_of (bus_members line)) ∷ []
    else [])))))

abbrev pub singles : List (List ℕ) → List (List ℕ × Json)
singles lines = flat_map single_members lines

-- ---- the objects

abbrev pub why_members : List (List ℕ) → List (List ℕ × Json)
why_members lines = singles lines ++ (optional_list Missed lines ++ optional_list Shared lines)

abbrev pub why_member : List (List ℕ) → List (List ℕ × Json)
why_member [] = []
why_member (line ∷ lines) = (codes "why", object_of (why_members (line ∷ lines))) ∷ []

-- a fault, of its line and the lines behind it
abbrev pub fault_object : List ℕ → List (List ℕ) → Json
fault_object line behind = object_of (fault_members line ++ why_member (inner_of behind))

-- a function, of its line and the lines behind it
abbrev pub function_members : List ℕ → List (List ℕ) → List (List ℕ × Json)
function_members line lines =
    header_members line ++ (list_member Bar lines ++ (singles lines ++ (optional_list Window lines ++ list_member Capability lines)))

abbrev pub function_object : List ℕ → List (List ℕ) → Json
function_object line behind = object_of (function_members line (inner_of behind))
