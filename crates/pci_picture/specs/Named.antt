-- What functions are called.
use Rattle.std.specs.Prelude.{◌≡◌, ◌≤◌, ℕ, zero, suc, Bool, true, false, ◌==◌, ◌&&◌, ◌/◌, ◌%◌, Option, Some, None, unwrap_or, List, [], ◌∷◌, ◌++◌, take, drop, length, fold, slice_index, nat_le, codes, if◌then◌else◌}
use Rattle.std.specs.Fmt.{digit_glyph}
use Rattle.std.specs.List.{All, find, slice_range, slice_split}
use Rattle.std.specs.Option.{option_map}
use Rattle.pci_picture.specs.Lines.{hex_value, is_feed, is_nonempty_word, is_register, is_slot, slot_number_of}
use Rattle.pci_picture.specs.Listings.{AreFunctionsListed}
use Rattle.pci_picture.specs.Roots.{Listed, listed_function}
use Rattle.pci_picture.specs.declared.function.Buses.{Buses}
use Rattle.pci_picture.specs.declared.function.Function.{Function}

-- ---- hex digits

-- the lowest so many hex digits of a number, in lower case
abbrev pub low_digits : ℕ → ℕ → List ℕ
low_digits zero number = []
low_digits (suc count) number = low_digits count (number / 16) ++ digit_glyph false (number % 16) ∷ []

-- ---- classes

-- the name of a base class, or of a subclass of it
pub record ClassName : Type 0 where
  pub base : ℕ
  pub subclass : Option ℕ
  pub name : List ℕ

abbrev pub class_named : ℕ → Option ℕ → List ℕ → ClassName
class_named base subclass name = record { base = base; subclass = subclass; name = name }

-- PCI Code and ID Assignment Specification, section 1: a subclass stands before its base class
abbrev pub class_names : List ClassName
class_names =
    class_named 0x00 None (codes "old device")
    ∷ class_named 0x01 (Some 0x01) (codes "IDE controller")
    ∷ class_named 0x01 (Some 0x04) (codes "RAID controller")
    ∷ class_named 0x01 (Some 0x06) (codes "SATA controller")
    ∷ class_named 0x01 (Some 0x07) (codes "SAS controller")
    ∷ class_named 0x01 (Some 0x08) (codes "NVMe controller")
    ∷ class_named 0x01 None (codes "storage")
    ∷ class_named 0x02 (Some 0x00) (codes "Ethernet controller")
    ∷ class_named 0x02 (Some 0x07) (codes "InfiniBand controller")
    ∷ class_named 0x02 None (codes "network")
    ∷ class_named 0x03 (Some 0x00) (codes "VGA display")
    ∷ class_named 0x03 None (codes "display")
    ∷ class_named 0x04 (Some 0x03) (codes "audio device")
    ∷ class_named 0x04 None (codes "multimedia")
    ∷ class_named 0x05 None (codes "memory")
    ∷ class_named 0x06 (Some 0x00) (codes "host bridge")
    ∷ class_named 0x06 (Some 0x01) (codes "ISA bridge")
    ∷ class_named 0x06 None (codes "bridge")
    ∷ class_named 0x07 (Some 0x00) (codes "serial port")
    ∷ class_named 0x07 None (codes "communication")
    ∷ class_named 0x08 None (codes "system device")
    ∷ class_named 0x09 None (codes "input")
    ∷ class_named 0x0b (Some 0x40) (codes "co-processor")
    ∷ class_named 0x0b None (codes "processor")
    ∷ class_named 0x0c (Some 0x03) (codes "USB controller")
    ∷ class_named 0x0c (Some 0x05) (codes "SMBus")
    ∷ class_named 0x0c None (codes "serial bus")
    ∷ class_named 0x10 None (codes "encryption")
    ∷ class_named 0x11 None (codes "signal processing")
    ∷ class_named 0x12 None (codes "accelerator")
    ∷ []

abbrev pub is_of_subclass : Option ℕ → ℕ → Bool
is_of_subclass None subclass = true
is_of_subclass (Some number) subclass = subclass == number

-- the first name that fits
unfoldable pub name_of_numbers : ℕ → ℕ → Option (List ℕ)
name_of_numbers base subclass =
    option_map (λ (entry : ClassName). entry.name)
    (find (λ (entry : ClassName). (base == entry.base) && is_of_subclass entry.subclass subclass) class_names)

-- the name of a class word, whose first two digits are the base class and whose next two are the subclass
unfoldable pub name_of_class : List ℕ → Option (List ℕ)
name_of_class word =
    if is_register (take 2 word) && is_register (take 2 (drop 2 word))
    then name_of_numbers (hex_value (take 2 word)) (hex_value (take 2 (drop 2 word)))
    else None

-- else the word itself is told
abbrev pub class_name : List ℕ → List ℕ
class_name word = unwrap_or (name_of_class word) (codes "class " ++ word)

-- ---- buses

-- `bus 03`, `buses 03-07`, or `no bus`
abbrev pub words_of_buses : Option Buses → List ℕ
words_of_buses None = codes "no bus"
words_of_buses (Some buses) =
    if buses.subordinate == 0
    then codes "no bus"
    else (if buses.secondary == buses.subordinate
    then codes "bus " ++ low_digits 2 buses.secondary
    else codes "buses " ++ low_digits 2 buses.secondary ++ codes "-" ++ low_digits 2 buses.subordinate)

-- ---- names

-- its title, else its class and its two identifiers
abbrev pub name_of_function : Listed → List ℕ
name_of_function function =
    if is_nonempty_word function.title
    then function.title
    else class_name function.class ++ codes " " ++ function.vendor ++ codes ":" ++ function.device

-- the name of a function stands among some names where the function tells
pub record HasNameIn (names : List ℕ) (function : Function) : Type 0 where
  pub rises : function.name.begin ≤ function.name.end
  pub inside : function.name.end ≤ length names
  pub is : slice_range names function.name.begin function.name.end ≡ name_of_function (listed_function function)

abbrev pub AreNamedIn : List ℕ → List Function → Type 0
AreNamedIn names functions = All (HasNameIn names) functions

-- the first function with a slot number
abbrev pub function_listed : List Listed → ℕ → Option Listed
function_listed functions slot = find (λ (function : Listed). function.slot == slot) functions

-- ---- titles

abbrev pub function_titled : Listed → List ℕ → Listed
function_titled function title = record {
  slot = function.slot;
  word = function.word;
  vendor = function.vendor;
  device = function.device;
  class = function.class;
  is_on = function.is_on;
  buses = function.buses;
  title = title;
}

-- the first function with a slot number has this title
abbrev pub with_title : ℕ → List ℕ → List Listed → List Listed
with_title slot title [] = []
with_title slot title (function ∷ functions) =
    if function.slot == slot then function_titled function title ∷ functions else function ∷ with_title slot title functions

-- a line `bb:dd.f TITLE`
unfoldable pub is_title_line : List ℕ → Bool
is_title_line line = nat_le 9 (length line) && (slice_index line 7 == 32) && is_slot (take 7 line)

-- the function of a title line has the title of the line
abbrev pub title_from_line : List Listed → List ℕ → List Listed
title_from_line functions line =
    if is_title_line line then with_title (slot_number_of (take 7 line)) (drop 8 line) functions else functions

-- the last line for a function wins
abbrev pub with_titles : List ℕ → List Listed → List Listed
with_titles titles functions = fold title_from_line functions (slice_split is_feed titles)

-- these are the functions that the text of `show` lists, with their titles
pub record AreFunctionsTitled (show titles : List ℕ) (functions : List Listed) : Type 0 where
  pub listed : List Listed
  pub are_listed : AreFunctionsListed show listed
  pub titled : functions ≡ with_titles titles listed
