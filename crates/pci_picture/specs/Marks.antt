-- Which regions the text of `faults --why` names, and how their boxes look.
use Rattle.std.specs.Prelude.{◌≡◌, ℕ, Bool, false, ◌==◌, ◌&&◌, ◌||◌, ◌<◌, ◌+◌, ◌-◌, ◌*◌, Option, Some, None, unwrap_or, List, [], ◌∷◌, ◌++◌, drop, length, map, min, slice_index, slice_index_or, codes, if◌then◌else◌}
use Rattle.std.specs.List.{All, list_any, slice_get, slice_split}
use Rattle.pci_picture.specs.Lines.{decimal_digit_value, decimal_value, hex_value, is_decimal, is_feed, is_register, is_slot, is_told_number, nth_word, says, slot_number_of, words_in_line}
use Rattle.pci_picture.specs.declared.faults.Fault.{Fault}
use Rattle.pci_picture.specs.declared.faults.Keys.{Keys}
use Rattle.pci_picture.specs.declared.faults.Keys.TheVariants.{One, Two}
use Rattle.pci_picture.specs.declared.faults.Keys.TheVariants.{None as NoKey}
use Rattle.pci_picture.specs.declared.faults.Naming.{Naming}
use Rattle.pci_picture.specs.declared.faults.Reader.{Reader}
use Rattle.pci_picture.specs.declared.reading.Place.{Place}
use Rattle.pci_picture.specs.declared.reading.Place.TheVariants.{Register}
use Rattle.pci_picture.specs.declared.reading.Place.TheVariants.{Told as ToldPlace}
use Rattle.pci_picture.specs.declared.region.Part.{Part}
use Rattle.pci_picture.specs.declared.region.Part.TheVariants.{Bar, Prefetchable, Rom, Window, Told, Held, Free}

-- ---- what names a region

-- a register `r`, or a told range `+n`
abbrev pub is_register_or_told : List ℕ → Bool
is_register_or_told word = is_register word || is_told_number word

-- told ranges come behind all registers
unfoldable pub number_in_slot : List ℕ → ℕ
number_in_slot word = if is_register word then hex_value word else decimal_value (drop 1 word) + 256

-- the number in its slot of what was read of such a word
abbrev pub number_of_place : Place → ℕ
number_of_place (Register register) = register
number_of_place (ToldPlace number) = min (number + 256) 65535

-- the key of the region that two words name: a slot, and a register or a told range of it
unfoldable pub key_of_words : List ℕ → List ℕ → Option ℕ
key_of_words slot place = if is_slot slot && is_register_or_told place then Some (slot_number_of slot * 65536 + number_in_slot place) else None

-- the key that a word and the one behind it name
abbrev pub key_named_at : List (List ℕ) → ℕ → Option ℕ
key_named_at words at = key_of_words (nth_word words at) (nth_word words (at + 1))

-- the key of a region's words: they name it behind the part, and behind `pref` where that follows. Free addresses have key 0
unfoldable pub key_of_region : List (List ℕ) → ℕ
key_of_region words =
    if says (nth_word words 2) (codes "rom") || says (nth_word words 2) (codes "window")
    then unwrap_or (key_named_at words 3) 0
    else (if says (nth_word words 2) (codes "free")
    then 0
    else unwrap_or (key_named_at words (if says (nth_word words 3) (codes "pref") then 4 else 3)) 0)

-- ---- the faults of a text

-- the number with which the first line of a fault begins: two digits, and a blank behind them
unfoldable pub number_before_blank : List ℕ → Option ℕ
number_before_blank line =
    if is_decimal (slice_index line 0) && is_decimal (slice_index line 1) && (slice_index line 2 == 32)
    then Some (decimal_digit_value (slice_index line 0) * 10 + decimal_digit_value (slice_index line 1)) else None

-- a key, or two keys where both are there
abbrev pub one_key : Option ℕ → List ℕ
one_key None = []
one_key (Some key) = key ∷ []

abbrev pub two_keys : Option ℕ → Option ℕ → List ℕ
two_keys None other = []
two_keys (Some one) None = []
two_keys (Some one) (Some other) = one ∷ other ∷ []

-- the regions that the first line of a fault names: 60 and 63 name one behind its part, 61 and 62 name two at the end of the line
unfoldable pub keys_of_fault : ℕ → List (List ℕ) → List ℕ
keys_of_fault number words =
    if number == 60 || number == 63
    then one_key (key_named_at words 2)
    else (if number == 61 || number == 62
    then two_keys (key_named_at words (length words - 4)) (key_named_at words (length words - 2))
    else [])

-- a line is the first one of a fault that has one of two numbers and names the region with a key
abbrev pub numbered_names : ℕ → ℕ → ℕ → List ℕ → Option ℕ → Bool
numbered_names one other key line None = false
numbered_names one other key line (Some number) =
    (number == one || number == other) && list_any (λ k. k == key) (keys_of_fault number (words_in_line line))

abbrev pub names_region : ℕ → ℕ → ℕ → List ℕ → Bool
names_region one other key line = numbered_names one other key line (number_before_blank line)

-- a line of a text is such a line
abbrev pub is_named : List ℕ → ℕ → ℕ → ℕ → Bool
is_named faults one other key = list_any (names_region one other key) (slice_split is_feed faults)

-- ---- the faults that were read

-- the fault at an index has one of two numbers
abbrev pub has_one_of : ℕ → ℕ → Option Fault → Bool
has_one_of one other None = false
has_one_of one other (Some fault) = fault.number == one || fault.number == other

abbrev pub is_naming : List Fault → ℕ → ℕ → ℕ → Naming → Bool
is_naming faults one other key naming = (naming.key == key) && has_one_of one other (slice_get faults naming.fault)

-- some naming of a region with this key is of a fault with one of two numbers
abbrev pub has_naming : List Fault → List Naming → ℕ → ℕ → ℕ → Bool
has_naming faults namings one other key = list_any (is_naming faults one other key) namings

-- the keys that were read of a line
abbrev pub keys_told : Keys → List ℕ
keys_told NoKey = []
keys_told (One key) = key ∷ []
keys_told (Two one other) = one ∷ other ∷ []

abbrev pub fault_numbers : List Fault → List ℕ
fault_numbers faults = map (λ fault. fault.number) faults

-- the fault at an index names the regions with some keys
abbrev pub namings_of : ℕ → List ℕ → List Naming
namings_of fault keys = map (λ key. record { key = key; fault = fault }) keys

-- the numbers and keys that one line adds
abbrev pub numbers_begun : Option ℕ → List ℕ
numbers_begun None = []
numbers_begun (Some number) = number ∷ []

abbrev pub keys_begun : Option ℕ → List ℕ → List ℕ
keys_begun None line = []
keys_begun (Some number) line = keys_of_fault number (words_in_line line)

-- a line adds a fault with its number and the regions that it names, or none
pub record AddsFault {A : Type 0} (number : Option ℕ) (line : List ℕ) (old new : Reader A) : Type 0 where
  pub numbers : fault_numbers new.faults.items ≡ fault_numbers old.faults.items ++ numbers_begun number
  pub namings : new.namings.items ≡ old.namings.items ++ namings_of (length old.faults.items) (keys_begun number line)

-- the namings of faults, of which the first one has this index
abbrev pub namings_of_faults : ℕ → List Fault → List Naming
namings_of_faults index [] = []
namings_of_faults index (fault ∷ faults) = namings_of index (keys_told fault.keys) ++ namings_of_faults (index + 1) faults

-- a fault has the keys that its first line names
pub record HasKeysOfLine (lines : List (List ℕ)) (fault : Fault) : Type 0 where
  pub inside : fault.begin < length lines
  pub keys_are : keys_told fault.keys ≡ keys_of_fault fault.number (words_in_line (slice_index_or lines fault.begin []))

-- each fault has the keys that its first line names, and a test finds one of their namings exactly where it finds one of those that were
-- read
pub record AreNamings (lines : List (List ℕ)) (faults : List Fault) (namings : List Naming) : Type 0 where
  pub each : All (HasKeysOfLine lines) faults
  pub all : (test : Naming → Bool) → list_any test (namings_of_faults 0 faults) ≡ list_any test namings

abbrev pub HasNamings : {A : Type 0} → Reader A → Type 0
HasNamings reader = AreNamings (map (λ line. line.now) reader.lines.items) reader.faults.items reader.namings.items

-- ---- how a box looks

-- the word of a part
abbrev pub word_of_part : Part → List ℕ
word_of_part Bar = codes "bar"
word_of_part Prefetchable = codes "pref"
word_of_part Rom = codes "rom"
word_of_part Window = codes "window"
word_of_part Told = codes "told"
word_of_part Held = codes "held"
word_of_part Free = codes "free"

-- by its part: its third word, or `pref` of a prefetchable BAR
unfoldable pub look_of_part : List (List ℕ) → List ℕ
look_of_part words =
    if says (nth_word words 2) (codes "bar") && says (nth_word words 3) (codes "pref") then codes "pref" else nth_word words 2

-- with a mark where it clashes, and one where it is out of place or lost
abbrev pub look_with : Bool → Bool → List ℕ → List ℕ
look_with clashes is_lost look = look ++ ((if clashes then codes " clash" else []) ++ (if is_lost then codes " lost" else []))
