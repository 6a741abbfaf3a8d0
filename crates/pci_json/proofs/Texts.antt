-- The objects of faults and capabilities have one `text` each.
use Rattle.std.proofs.Common.{◌≡◌, ◌==◌, ◌||◌, ℕ, List, [], ◌∷◌, ◌++◌, Bool, true, false, refl, ap, ap₂, ◌∙◌, codes, map, cond, if◌then◌else◌}
use Rattle.std.specs.List.{filter}
use Rattle.json.specs.Json.{Json, string}
use Rattle.pci_json.specs.declared.group.Kind.TheVariants.{Capability}
use Rattle.pci_json.specs.Lines.{lines_of_text, content_of, word, is_word, behind_words, value_in_base}
use Rattle.pci_json.specs.Members.{members_of, object_of, slot_register_members, register_or_line, is_line, also_line_number, hex, json_count}
use Rattle.pci_json.specs.Faults.{space_and_address, unreached_members, clash_members, split_members, outside_members, no_room_members, slot_members, named_members, fault_members, fault_number_in_line}
use Rattle.pci_json.specs.Reasons.{region_members}
use Rattle.pci_json.specs.Listings.{capability_members}
use Rattle.pci_json.specs.Groups.{inner_of, why_member, fault_object, items_of_kind}
use Rattle.pci_json.specs.Documents.{is_fault, faults_of, is_off_heading, offs_of, first_line, behind_line, room_member}
use Rattle.pci_json.specs.Values.{values_in}
use Rattle.pci_json.specs.TextLaws.{texts_of, EachFaultHasItsLine, EachOffIsOneObject, RefusalHasItsLine, EachCapabilityHasItsText}
use Rattle.pci_json.proofs.Values.{values_of_more}

abbrev texts_in : List (List ℕ × Json) → List Json
texts_in ms = values_in (codes "text") (members_of ms)

-- ---- what a fault names has no `text`

behind_if : (told : Bool) (w : List ℕ) (more : List (List ℕ × Json))
    → texts_in ((if told then (codes "line", json_count (also_line_number w)) ∷ [] else (codes "register", hex w) ∷ []) ++ more) ≡ texts_in more
behind_if true w more = refl
behind_if false w more = refl

told_alone : (told : Bool) (w : List ℕ) → texts_in (if told then (codes "line", json_count (also_line_number w)) ∷ [] else (codes "register", hex w) ∷ []) ≡ []
told_alone true w = refl
told_alone false w = refl

behind_register : (w : List ℕ) (more : List (List ℕ × Json)) → texts_in (register_or_line w ++ more) ≡ texts_in more
behind_register w more = behind_if (is_line w) w more

amounts : (none : Bool) (line : List ℕ)
    → texts_in (if none then [] else (codes "size", json_count (value_in_base 16 (word 5 line))) ∷ (codes "align", json_count (value_in_base 16 (word 6 line))) ∷ []) ≡ []
amounts true line = refl
amounts false line = refl

part : (none short : Bool) (line : List ℕ)
    → texts_in (if none then [] else slot_register_members 3 line ++ (if short then [] else (codes "size", json_count (value_in_base 16 (word 5 line))) ∷ (codes "align", json_count (value_in_base 16 (word 6 line))) ∷ [])) ≡ []
part true short line = refl
part false short line =
    behind_register (word 4 line) (if short then [] else (codes "size", json_count (value_in_base 16 (word 5 line))) ∷ (codes "align", json_count (value_in_base 16 (word 6 line))) ∷ [])
    ∙ amounts short line

register : (none : Bool) (line : List ℕ) → texts_in (if none then [] else (codes "register", hex (word 3 line)) ∷ []) ≡ []
register true line = refl
register false line = refl

named_by : (a b c d e f g : Bool) (line : List ℕ)
    → texts_in (if a then unreached_members line
    else (if b then clash_members line
    else (if c then split_members line
    else (if d then outside_members line
    else (if e then []
    else (if f then no_room_members line
    else (if g then slot_register_members 2 line
    else slot_members line))))))) ≡ []
named_by true b c d e f g line = behind_register (word 3 line) (space_and_address 4 line ++ (codes "bridge", string (word 7 line)) ∷ [])
named_by false true c d e f g line = refl
named_by false false true d e f g line = refl
named_by false false false true e f g line = behind_register (word 3 line) (space_and_address 4 line)
named_by false false false false true f g line = refl
named_by false false false false false true g line = part (is_word 3 [] line) (is_word 5 [] line) line
named_by false false false false false false true line = told_alone (is_line (word 3 line)) (word 3 line)
named_by false false false false false false false line = register (is_word 3 [] line) line

named : (n : ℕ) (line : List ℕ) → texts_in (named_members n line) ≡ []
named n line = named_by (n == 60) (n == 61) (n == 62) (n == 63) (n == 70 || n == 77) (n == 72) (n == 75) line

-- ---- with what stands behind it, the one `text` is its line

one_text : (line : List ℕ) (more : List (List ℕ × Json)) → texts_in more ≡ [] → texts_in (fault_members line ++ more) ≡ string line ∷ []
one_text line more none =
    ap (λ vs. string line ∷ vs)
    (values_of_more (codes "text") (named_members (fault_number_in_line line) line) more
    ∙ ap₂ (λ (x y : List Json). x ++ y) (named (fault_number_in_line line) line) none)

why : (lines : List (List ℕ)) → texts_in (why_member lines) ≡ []
why [] = refl
why (line ∷ lines) = refl

room : (lines : List (List ℕ)) → texts_in (room_member lines) ≡ []
room [] = refl
room (line ∷ lines) = refl

fault_text : (line : List ℕ) (behind : List (List ℕ)) → texts_of (fault_object line behind) ≡ string line ∷ []
fault_text line behind = one_text line (why_member (inner_of behind)) (why (inner_of behind))

faults_step : (is : Bool) (line : List ℕ) (lines : List (List ℕ))
    → map texts_of (faults_of lines) ≡ map (λ l. string (content_of l) ∷ []) (filter is_fault lines)
    → map texts_of ((if is then fault_object (content_of line) lines ∷ [] else []) ++ faults_of lines)
    ≡ map (λ l. string (content_of l) ∷ []) (cond is (line ∷ filter is_fault lines) (filter is_fault lines))
faults_step true line lines more = ap₂ (λ (x : List Json) (y : List (List Json)). x ∷ y) (fault_text (content_of line) lines) more
faults_step false line lines more = more

pub each_fault_has_its_line : EachFaultHasItsLine
each_fault_has_its_line [] = refl
each_fault_has_its_line (line ∷ lines) = faults_step (is_fault line) line lines (each_fault_has_its_line lines)

pub refusal_has_its_line : RefusalHasItsLine
refusal_has_its_line text =
    one_text (behind_words 1 (first_line text)) (room_member (inner_of (lines_of_text (behind_line text)))) (room (inner_of (lines_of_text (behind_line text))))

-- ---- what is off

offs_step : (is : Bool) (line : List ℕ) (lines : List (List ℕ))
    → offs_of lines ≡ map (λ l. object_of (region_members 1 (content_of l))) (filter is_off_heading lines)
    → (if is then object_of (region_members 1 (content_of line)) ∷ [] else []) ++ offs_of lines
    ≡ map (λ l. object_of (region_members 1 (content_of l))) (cond is (line ∷ filter is_off_heading lines) (filter is_off_heading lines))
offs_step true line lines more = ap (λ js. object_of (region_members 1 (content_of line)) ∷ js) more
offs_step false line lines more = more

pub each_off_is_one_object : EachOffIsOneObject
each_off_is_one_object [] = refl
each_off_is_one_object (line ∷ lines) = offs_step (is_off_heading line) line lines (each_off_is_one_object lines)

-- ---- capabilities

capabilities_step : (is : Bool) (line : List ℕ) (lines : List (List ℕ))
    → map texts_of (items_of_kind Capability lines) ≡ map (λ l. string (behind_words 3 l) ∷ []) (filter (is_word 0 (codes "cap")) lines)
    → map texts_of ((if is then object_of (capability_members line) ∷ [] else []) ++ items_of_kind Capability lines)
    ≡ map (λ l. string (behind_words 3 l) ∷ []) (cond is (line ∷ filter (is_word 0 (codes "cap")) lines) (filter (is_word 0 (codes "cap")) lines))
capabilities_step true line lines more = ap (λ y. (string (behind_words 3 line) ∷ []) ∷ y) more
capabilities_step false line lines more = more

pub each_capability_has_its_text : EachCapabilityHasItsText
each_capability_has_its_text [] = refl
each_capability_has_its_text (line ∷ lines) =
    capabilities_step (is_word 0 (codes "cap") line) line lines (each_capability_has_its_text lines)
