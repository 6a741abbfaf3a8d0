-- Which functions the text of `show` lists.
use Rattle.std.specs.Prelude.{◌≡◌, ℕ, Bool, ◌==◌, ◌&&◌, ◌%◌, not, Some, None, List, [], ◌∷◌, ◌++◌, take, fold, nat_eq, codes, if◌then◌else◌}
use Rattle.std.specs.List.{slice_split, starts_with}
use Rattle.std.specs.List.Sorted.{IsPermutation, IsNonDecreasingBy}
use Rattle.pci_picture.specs.Lines.{hex_value, is_feed, is_number, is_register, is_slot, nth_word, slot_number_of, unindented_line, words_in_line}
use Rattle.pci_picture.specs.Roots.{Listed}
use Rattle.pci_picture.specs.declared.function.Buses.{Buses}

-- ---- lines

-- a line `S type T vendor V device D class C command X status X`
unfoldable pub is_function_line : List ℕ → Bool
is_function_line line = is_slot (take 7 line) && is_number (nth_word (words_in_line line) 10)

-- a line `bus P S B`, with blanks before it
unfoldable pub is_bus_line : List ℕ → Bool
is_bus_line line =
    starts_with nat_eq (unindented_line line) (codes "bus ")
    && is_register (nth_word (words_in_line line) 2) && is_register (nth_word (words_in_line line) 3)

-- the words of a line for its vendor, its device and its class
pub record AreIdentifiers (words : List (List ℕ)) (vendor device class : List ℕ) : Type 0 where
  pub vendor_is : vendor ≡ nth_word words 4
  pub device_is : device ≡ nth_word words 6
  pub class_is : class ≡ nth_word words 8

-- bit 0 of Command enables I/O space, and bit 1 memory space
abbrev pub is_enabled : ℕ → Bool
is_enabled command = not (command % 4 == 0)

unfoldable pub function_of_line : List ℕ → Listed
function_of_line line = record {
  slot = slot_number_of (take 7 line);
  word = take 7 line;
  vendor = nth_word (words_in_line line) 4;
  device = nth_word (words_in_line line) 6;
  class = nth_word (words_in_line line) 8;
  is_on = is_enabled (hex_value (nth_word (words_in_line line) 10));
  buses = None;
  title = [];
}

abbrev pub told_buses : List ℕ → Buses
told_buses line = record {
  secondary = hex_value (nth_word (words_in_line line) 2);
  subordinate = hex_value (nth_word (words_in_line line) 3);
}

-- ---- the functions of a text

abbrev pub bridge_with : Listed → Buses → Listed
bridge_with function buses = record {
  slot = function.slot;
  word = function.word;
  vendor = function.vendor;
  device = function.device;
  class = function.class;
  is_on = function.is_on;
  buses = Some buses;
  title = function.title;
}

-- the last function has these buses
abbrev pub with_buses : List Listed → Buses → List Listed
with_buses [] buses = []
with_buses (function ∷ []) buses = bridge_with function buses ∷ []
with_buses (function ∷ next ∷ functions) buses = function ∷ with_buses (next ∷ functions) buses

-- a line lists a function, or tells the buses of the one listed before
abbrev pub list_line : List Listed → List ℕ → List Listed
list_line functions line =
    if is_function_line line
    then functions ++ function_of_line line ∷ []
    else (if is_bus_line line then with_buses functions (told_buses line) else functions)

abbrev pub functions_listed : List ℕ → List Listed
functions_listed show = fold list_line [] (slice_split is_feed show)

-- these are the functions that a text lists, by rising slot
pub record AreFunctionsListed (show : List ℕ) (functions : List Listed) : Type 0 where
  pub all : IsPermutation (functions_listed show) functions
  pub sorted : IsNonDecreasingBy (λ (function : Listed). function.slot) functions
