-- What the title of a region's box says below the region's line.
use Rattle.std.specs.Prelude.{ℕ, Bool, Option, Some, None, List, [], ◌∷◌, ◌++◌, codes, if◌then◌else◌}
use Rattle.pci_picture.specs.Lines.{nth_word, says}
use Rattle.pci_picture.specs.Marks.{key_of_region}
use Rattle.pci_picture.specs.Named.{function_listed, name_of_function, words_of_buses}
use Rattle.pci_picture.specs.Roots.{Listed}
use Rattle.pci_picture.specs.Slots.{slot_of_key}
use Rattle.pci_picture.specs.declared.function.Buses.{Buses}

-- the words of a line are those of free addresses, or of a window
abbrev pub says_free : List (List ℕ) → Bool
says_free words = says (nth_word words 2) (codes "free")

abbrev pub says_window : List (List ℕ) → Bool
says_window words = says (nth_word words 2) (codes "window")

-- the function of a line is the one with the slot of its key. Free addresses have none
abbrev pub function_of_region : List Listed → List (List ℕ) → Option Listed
function_of_region functions words = if says_free words then None else function_listed functions (slot_of_key (key_of_region words))

-- the name of a function, or nothing where it isn't listed
abbrev pub name_if_listed : Option Listed → List ℕ
name_if_listed None = []
name_if_listed (Some function) = name_of_function function

-- the buses of a function, or none where it isn't listed
abbrev pub buses_if_listed : Option Listed → Option Buses
buses_if_listed None = None
buses_if_listed (Some function) = function.buses

-- the title of a window has a line more, which tells the buses behind it
abbrev pub said_of_window : List (List ℕ) → Option Buses → List ℕ
said_of_window words buses = if says_window words then 10 ∷ (codes "to " ++ words_of_buses buses) else []

-- a title says the name of the region's function, and below it the buses behind a window
abbrev pub said_of_function : List Listed → List (List ℕ) → List ℕ
said_of_function functions words =
    name_if_listed (function_of_region functions words) ++ said_of_window words (buses_if_listed (function_of_region functions words))

-- below the line of a region stands what is said of its function, and behind that what is said of the faults that name the region.
-- Below free addresses stands nothing
abbrev pub said_below : List Listed → (ℕ → List ℕ) → List (List ℕ) → List ℕ
said_below functions said words =
    if says_free words then [] else 10 ∷ (said_of_function functions words ++ said (key_of_region words))
