-- The faults of a text with their lines, and what the title of a box says of them.
use Rattle.std.specs.Prelude.{◌≡◌, ◌+◌, ◌<◌, ℕ, length, ◌==◌, ◌-◌, Option, Some, None, List, [], ◌∷◌, ◌++◌, take, drop, fold, map, nat_eq, codes, slice_index_or, if◌then◌else◌}
use Rattle.std.specs.List.{All, filter, flat_map, slice_get, slice_split, starts_with}
use Rattle.pci_picture.specs.Lines.{is_feed, unindented_line, words_in_line}
use Rattle.pci_picture.specs.Marks.{has_naming, is_named, keys_of_fault, number_before_blank}
use Rattle.pci_picture.specs.declared.faults.Fault.{Fault}
use Rattle.pci_picture.specs.declared.faults.Faults.{Faults}
use Rattle.pci_picture.specs.declared.faults.Reader.{Reader}

-- ---- the faults of a text

-- a fault: its number, and its lines. Further lines stand without the blanks before them
pub record FaultSaid : Type 0 where
  pub number : ℕ
  pub lines : List (List ℕ)

-- the last fault has one line more
abbrev pub with_reason : List FaultSaid → List ℕ → List FaultSaid
with_reason [] line = []
with_reason (fault ∷ []) line = record { number = fault.number; lines = fault.lines ++ line ∷ [] } ∷ []
with_reason (fault ∷ next ∷ faults) line = fault ∷ with_reason (next ∷ faults) line

-- the first line of a fault has a number; a line with two blanks before it is a further one
abbrev pub with_fault_line : List FaultSaid → List ℕ → Option ℕ → List FaultSaid
with_fault_line faults line (Some number) = faults ++ record { number = number; lines = line ∷ [] } ∷ []
with_fault_line faults line None = if starts_with nat_eq line (codes "  ") then with_reason faults (unindented_line line) else faults

abbrev pub say_line : List FaultSaid → List ℕ → List FaultSaid
say_line faults line = with_fault_line faults line (number_before_blank line)

abbrev pub faults_said : List ℕ → List FaultSaid
faults_said text = fold say_line [] (slice_split is_feed text)

-- ---- what a title says

-- each line behind a line feed
abbrev pub said_lines : List (List ℕ) → List ℕ
said_lines lines = flat_map (λ line. 10 ∷ line) lines

-- the lines of a fault, where it names the region with a key, as often as it does
abbrev pub said_of_fault : ℕ → FaultSaid → List ℕ
said_of_fault key fault =
    flat_map (λ k. if k == key then said_lines fault.lines else [])
    (keys_of_fault fault.number (words_in_line (slice_index_or fault.lines 0 [])))

-- those of all faults of a text
abbrev pub said_of_key : List ℕ → ℕ → List ℕ
said_of_key text key = flat_map (said_of_fault key) (faults_said text)

-- ---- the faults that were read

-- the number of a fault, and which lines are its own
pub record FaultPlace : Type 0 where
  pub number : ℕ
  pub begin : ℕ
  pub end : ℕ

abbrev pub place_of_fault : Fault → FaultPlace
place_of_fault fault = record { number = fault.number; begin = fault.begin; end = fault.end }

-- the lines of faults stand in a row
abbrev pub places_from : ℕ → List FaultSaid → List FaultPlace
places_from begin [] = []
places_from begin (fault ∷ faults) =
    record { number = fault.number; begin = begin; end = begin + length fault.lines } ∷ places_from (begin + length fault.lines) faults

-- what was read so far is some faults, each with its lines
pub record AreLinesOf {A : Type 0} (said : List FaultSaid) (reader : Reader A) : Type 0 where
  pub each : All (λ fault. 0 < length fault.lines) said
  pub lines : map (λ line. line.now) reader.lines.items ≡ flat_map (λ fault. fault.lines) said
  pub places : map place_of_fault reader.faults.items ≡ places_from 0 said

-- the lines of the fault at an index
abbrev pub lines_of_fault : {A : Type 0} → Faults A → Option Fault → List (List ℕ)
lines_of_fault faults None = []
lines_of_fault faults (Some fault) = map (λ line. line.now) (take (fault.end - fault.begin) (drop fault.begin faults.lines.items))

abbrev pub said_by : {A : Type 0} → Faults A → ℕ → List ℕ
said_by faults key =
    flat_map (λ naming. said_lines (lines_of_fault faults (slice_get faults.faults.items naming.fault)))
    (filter (λ naming. naming.key == key) faults.namings.items)

-- what was read says of each region what the text does
abbrev pub AreSaidOf : {A : Type 0} → List ℕ → Faults A → Type 0
AreSaidOf text faults = (key : ℕ) → said_by faults key ≡ said_of_key text key

-- what was read names the regions that a text does
abbrev pub AreFaultsOf : {A : Type 0} → List ℕ → Faults A → Type 0
AreFaultsOf text faults =
    (one other key : ℕ) → has_naming faults.faults.items faults.namings.items one other key ≡ is_named text one other key
