-- Which fault or command a word names, and which text explains it.
use Rattle.std.specs.Prelude.{ℕ, Bool, ◌||◌, nat_eq, IsTrue, List, Option, find}
use Rattle.std.specs.List.{starts_with}
use Rattle.std.specs.Option.{option_map, option_or}
use Rattle.std.specs.Str.{bytes_eq, str_eq_ignore_ascii_case}
use Rattle.pciplan_front.specs.declared.fault.Fault.{Fault}
use Rattle.pciplan_front.specs.declared.fault.TheConstants.{FAULTS}
use Rattle.pciplan_front.specs.declared.command.Command.{Command}
use Rattle.pciplan_front.specs.declared.command.TheConstants.{COMMANDS}
use Rattle.pciplan_front.specs.declared.names.TheConstants.{NAMES}
use Rattle.pciplan_front.specs.Faults.{explained_fault_number, explained_fault_name, explained_fault_text}
use Rattle.pciplan_front.specs.Commands.{explained_command_name, command_text}

-- the word is the fault's number, or its name in any case
unfoldable pub names_fault : List ℕ → Fault → Bool
names_fault word fault = bytes_eq (explained_fault_number fault) word || str_eq_ignore_ascii_case (explained_fault_name fault) word

abbrev pub names_command : List ℕ → Command → Bool
names_command word command = bytes_eq (explained_command_name command) word

-- the first fault, by number, or the command that a word names
unfoldable pub named_fault : List ℕ → Option Fault
named_fault word = find (names_fault word) FAULTS

unfoldable pub named_command : List ℕ → Option Command
named_command word = find (names_command word) COMMANDS

-- the text that explains a word: that of a fault, or where it names none that of a command
abbrev pub text_of_word : List ℕ → Option (List ℕ)
text_of_word word =
    option_or (option_map explained_fault_text (named_fault word)) (option_map command_text (named_command word))

-- a text begins with these words
abbrev pub BeginsWithHeading : List ℕ → List ℕ → Type 0
BeginsWithHeading words text = IsTrue (starts_with nat_eq text words)

-- the names of all faults and commands, a line for each
abbrev pub all_names : List ℕ
all_names = NAMES.now
