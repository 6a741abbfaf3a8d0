-- The list of faults above a picture.
use Rattle.std.specs.Prelude.{ℕ, Bool, ◌+◌, ◌-◌, ◌*◌, Some, List, [], ◌∷◌, ◌++◌, codes, length, map, nat_lt, if◌then◌else◌}
use Rattle.std.specs.Fmt.{decimal}
use Rattle.pci_picture.specs.Labels.{label_text}
use Rattle.pci_picture.specs.Said.{FaultSaid, lines_of_fault}
use Rattle.pci_picture.specs.declared.faults.Fault.{Fault}
use Rattle.pci_picture.specs.declared.faults.Faults.{Faults}

-- a line of the list: where it begins from the left, its look and its words
pub record FaultLine : Type 0 where
  pub left : ℕ
  pub class : List ℕ
  pub words : List ℕ

-- the first line of a fault is red and bold, and further ones stand further in
abbrev pub bold_line : List ℕ → FaultLine
bold_line words = record { left = 16; class = codes "alarm bold"; words = words }

abbrev pub further_line : List ℕ → FaultLine
further_line words = record { left = 32; class = []; words = words }

abbrev pub fault_line : Bool → List ℕ → FaultLine
fault_line is_first words = if is_first then bold_line words else further_line words

abbrev pub lines_of_reason : List (List ℕ) → List FaultLine
lines_of_reason [] = []
lines_of_reason (line ∷ lines) = bold_line line ∷ map further_line lines

abbrev pub left_out_line : ℕ → FaultLine
left_out_line count = bold_line (codes "and " ++ (decimal count ++ codes " more"))

-- the lines of faults, as long as there is room for all lines of a fault; then how many faults are left out
abbrev pub lines_within : ℕ → List FaultSaid → List FaultLine
lines_within room [] = []
lines_within room (fault ∷ faults) =
    if nat_lt room (length fault.lines)
    then left_out_line (length (fault ∷ faults)) ∷ []
    else lines_of_reason fault.lines ++ lines_within (room - length fault.lines) faults

-- lines stand 14 units below each other
abbrev pub list_text : ℕ → List FaultLine → List ℕ
list_text y [] = []
list_text y (line ∷ lines) = label_text line.left (y + 14) line.class line.words ++ list_text (y + 14) lines

-- the list begins below a height of 72, and has up to 40 lines of faults
abbrev pub fault_list_text : List FaultSaid → List ℕ
fault_list_text faults = list_text 72 (lines_within 40 faults)

-- the tree begins 22 units below the last line of the list
abbrev pub tree_top : List FaultSaid → ℕ
tree_top faults = 94 + 14 * length (lines_within 40 faults)

-- the faults that were read, with their lines
abbrev pub faults_read : {A : Type 0} → Faults A → List FaultSaid
faults_read faults =
    map (λ (fault : Fault). record { number = fault.number; lines = lines_of_fault faults (Some fault) }) faults.faults.items
