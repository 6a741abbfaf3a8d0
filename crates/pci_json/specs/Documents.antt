-- The document of an answer.
use Rattle.std.specs.Prelude.{ℕ, ◌+◌, ◌==◌, ◌&&◌, nat_lt, not, Bool, List, [], ◌∷◌, ◌++◌, codes, map, flat_map, if◌then◌else◌}
use Rattle.std.specs.List.{before_first, after_first, list_any}
use Rattle.json.specs.Json.{Json, string}
use Rattle.pci_json.specs.declared.document.Command.{Command}
use Rattle.pci_json.specs.declared.document.Command.TheVariants.{Check, Faults, Map, Show, Plan, Settle}
use Rattle.pci_json.specs.Lines.{lines_of_text, content_of, depth_of, is_inner, is_word, behind_words}
use Rattle.pci_json.specs.Members.{object_of, array_of, json_count}
use Rattle.pci_json.specs.Faults.{fault_members}
use Rattle.pci_json.specs.Reasons.{region_members}
use Rattle.pci_json.specs.Listings.{place_members, root_members, write_members}
use Rattle.pci_json.specs.Groups.{inner_of, fault_object, function_object}

-- a line that isn't indented and begins with this word
abbrev pub is_heading : List ℕ → List ℕ → Bool
is_heading name line = not (is_inner line) && is_word 0 name (content_of line)

-- ---- a list of faults, and what is off behind it

abbrev pub is_off_heading : List ℕ → Bool
is_off_heading line = is_heading (codes "off") line

abbrev pub is_fault : List ℕ → Bool
is_fault line = not (is_inner line) && (not (is_word 0 (codes "off") (content_of line)) && not (is_word 0 (codes "yes") (content_of line)))

-- the fault of a line, if it is one, with the lines behind it
abbrev pub fault_on_line : List ℕ → List (List ℕ) → List Json
fault_on_line line behind_words = if is_fault line then fault_object (content_of line) behind_words ∷ [] else []

abbrev pub faults_of : List (List ℕ) → List Json
faults_of [] = []
faults_of (line ∷ lines) = fault_on_line line lines ++ faults_of lines

abbrev pub off_of : List ℕ → List Json
off_of line = if is_off_heading line then object_of (region_members 1 (content_of line)) ∷ [] else []

abbrev pub offs_of : List (List ℕ) → List Json
offs_of lines = flat_map off_of lines

abbrev pub has_off : List (List ℕ) → Bool
has_off lines = list_any is_off_heading lines

abbrev pub off_member : List (List ℕ) → List (List ℕ × Json)
off_member lines = if has_off lines then (codes "off", array_of (offs_of lines)) ∷ [] else []

-- ---- a map

-- the region of a line, if it stands at this depth, with what is inside
abbrev pub place_on_line : ℕ → List ℕ → List Json → List Json
place_on_line depth line inside =
    if depth_of line == depth then object_of (place_members (content_of line) inside) ∷ [] else []

-- the regions of the lines at this depth, up to the first line above it; what is deeper is inside a window, or below the
-- bridge that takes it
abbrev pub place_objects : ℕ → List (List ℕ) → List Json
place_objects depth [] = []
place_objects depth (line ∷ lines) =
    if nat_lt (depth_of line) depth then []
    else place_on_line depth line (place_objects (depth + 1) lines) ++ place_objects depth lines

-- a root bus and a space, of its heading and the lines behind it
abbrev pub root_of : List ℕ → List (List ℕ) → List Json
root_of line behind_words =
    if is_heading (codes "bus") line then object_of (root_members (content_of line) (place_objects 1 behind_words)) ∷ [] else []

abbrev pub bus_objects : List (List ℕ) → List Json
bus_objects [] = []
bus_objects (line ∷ lines) = root_of line lines ++ bus_objects lines

-- the lines behind the first heading that begins with this word
abbrev pub behind_heading : List ℕ → List (List ℕ) → List (List ℕ)
behind_heading name [] = []
behind_heading name (line ∷ lines) = if is_heading name line then lines else behind_heading name lines

-- the regions below it
abbrev pub aside_of : List ℕ → List (List ℕ) → List Json
aside_of name lines = place_objects 1 (behind_heading name lines)

-- ---- a listing

-- the function of a line, if the line isn't indented, with the lines behind it
abbrev pub function_on_line : List ℕ → List (List ℕ) → List Json
function_on_line line behind_words = if is_inner line then [] else function_object (content_of line) behind_words ∷ []

abbrev pub functions_of : List (List ℕ) → List Json
functions_of [] = []
functions_of (line ∷ lines) = function_on_line line lines ++ functions_of lines

-- ---- writes

abbrev pub write_object : List ℕ → Json
write_object line = object_of (write_members (content_of line))

abbrev pub writes_of : List (List ℕ) → List Json
writes_of lines = map write_object lines

-- ---- the document

abbrev pub command_name : Command → List ℕ
command_name Check = codes "check"
command_name Faults = codes "faults"
command_name Map = codes "map"
command_name Show = codes "show"
command_name Plan = codes "plan"
command_name Settle = codes "settle"

abbrev pub body_members : Command → List (List ℕ) → List (List ℕ × Json)
body_members Check lines = []
body_members Faults lines = (codes "faults", array_of (faults_of lines)) ∷ off_member lines
body_members Map lines =
    (codes "buses", array_of (bus_objects lines)) ∷ (codes "outside", array_of (aside_of (codes "outside") lines))
    ∷ (codes "unreached", array_of (aside_of (codes "unreached") lines))
    ∷ (codes "off", array_of (aside_of (codes "off") lines)) ∷ []
body_members Show lines = (codes "functions", array_of (functions_of lines)) ∷ []
body_members Plan lines = (codes "writes", array_of (writes_of lines)) ∷ []
body_members Settle lines = (codes "writes", array_of (writes_of lines)) ∷ []

abbrev pub first_line : List ℕ → List ℕ
first_line text = before_first (λ b. b == 10) text

abbrev pub behind_line : List ℕ → List ℕ
behind_line text = after_first (λ b. b == 10) text

-- `plan --why` has a line behind a 72, which is told as it stands
abbrev pub room_member : List (List ℕ) → List (List ℕ × Json)
room_member [] = []
room_member (line ∷ lines) = (codes "why", object_of ((codes "text", string line) ∷ [])) ∷ []

abbrev pub refusal_members : List ℕ → List (List ℕ × Json)
refusal_members text =
    (codes "fault", object_of (fault_members (behind_words 1 (first_line text)) ++ room_member (inner_of (lines_of_text (behind_line text))))) ∷ []

-- `no` and a fault, or the command's own answer
abbrev pub answer_members : Command → List ℕ → List (List ℕ × Json)
answer_members command text =
    if is_word 0 (codes "no") (first_line text)
    then refusal_members text
    else body_members command (lines_of_text text)

abbrev pub document_of : Command → ℕ → List ℕ → Json
document_of command status text =
    object_of ((codes "form", json_count 1) ∷ (codes "command", string (command_name command)) ∷ (codes "status", json_count status)
    ∷ answer_members command text)
