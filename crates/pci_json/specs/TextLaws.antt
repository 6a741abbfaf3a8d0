-- Laws of the lines that stand in a document as they are: none is lost, and none is added.
use Rattle.std.specs.Prelude.{◌≡◌, ℕ, List, [], ◌∷◌, ◌++◌, codes, map}
use Rattle.std.specs.List.{filter}
use Rattle.json.specs.Json.{Json, string}
use Rattle.pci_json.specs.declared.group.Kind.TheVariants.{Capability}
use Rattle.pci_json.specs.Lines.{lines_of_text, content_of, is_word, behind_words}
use Rattle.pci_json.specs.Members.{object_of}
use Rattle.pci_json.specs.Faults.{fault_members}
use Rattle.pci_json.specs.Reasons.{region_members}
use Rattle.pci_json.specs.Groups.{inner_of, items_of_kind}
use Rattle.pci_json.specs.Documents.{is_fault, faults_of, is_off_heading, offs_of, first_line, behind_line, room_member}
use Rattle.pci_json.specs.Values.{values_named}

-- an object's members `text`, each of which is this text
abbrev pub texts_of : Json → List Json
texts_of j = values_named (codes "text") j

-- Of a list of faults each object has one `text`. They are the lines of the faults, in their order.
abbrev pub EachFaultHasItsLine : Type 0
EachFaultHasItsLine =
    (lines : List (List ℕ)) → map texts_of (faults_of lines) ≡ map (λ line. string (content_of line) ∷ []) (filter is_fault lines)

-- Each line that tells that a BAR is off is one object, in the order of the lines.
abbrev pub EachOffIsOneObject : Type 0
EachOffIsOneObject =
    (lines : List (List ℕ)) → offs_of lines ≡ map (λ line. object_of (region_members 1 (content_of line))) (filter is_off_heading lines)

-- The object of a fault behind `no` has one `text`, which is the line behind that word.
abbrev pub RefusalHasItsLine : Type 0
RefusalHasItsLine =
    (text : List ℕ) → texts_of (object_of (fault_members (behind_words 1 (first_line text)) ++ room_member (inner_of (lines_of_text (behind_line text)))))
    ≡ string (behind_words 1 (first_line text)) ∷ []

-- Of a function's capabilities each object has one `text`. They are what the lines say behind the kind, in their order.
abbrev pub EachCapabilityHasItsText : Type 0
EachCapabilityHasItsText =
    (lines : List (List ℕ)) → map texts_of (items_of_kind Capability lines) ≡ map (λ line. string (behind_words 3 line) ∷ []) (filter (is_word 0 (codes "cap")) lines)
