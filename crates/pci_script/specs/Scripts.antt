-- The script of a list of register writes, which compares registers with a dump before the first.
use Rattle.std.specs.Prelude.{ℕ, ◌+◌, ◌==◌, Bool, false, if◌then◌else◌, List, [], ◌∷◌, ◌++◌, map, codes}
use Rattle.std.specs.Fmt.{decimal, digits}
use Rattle.std.specs.List.{filter, flat_map, list_any}
use Rattle.pci_spec.specs.Slot.{same_slot}
use Rattle.pci_spec.specs.Text.{Block, hex_byte}
use Rattle.pci_spec.specs.Line.{field, hex_number, slot_field}
use Rattle.pci_spec.specs.Machine.{Write}
use Rattle.pci_plan.specs.Steps.{all_shown}
use Rattle.pci_script.specs.declared.form.Form.{Form}
use Rattle.pci_script.specs.declared.form.Form.TheVariants.{Setpci, Grub}
use Rattle.pci_script.specs.declared.texts.TheConstants.{SETPCI_HEAD, SETPCI_END, GRUB_HEAD, GRUB_END}

-- ---- what is compared

-- whether a function is written
abbrev pub is_written : List Write → Block → Bool
is_written writes b = list_any (same_slot b.slot) (map (λ w. w.slot) writes)

-- Command and the address registers of the functions that are written, each with what the dump has there
abbrev pub compared_with : List Block → List Write → List Write
compared_with dump writes = all_shown (filter (is_written writes) dump)

-- ---- the lines

-- a register: its offset, and w where it has two bytes or l where it has four
abbrev pub register_name : Write → List ℕ
register_name w = hex_byte w.offset ++ (if w.width == 2 then codes ".w" else codes ".l")

-- a value as it is read: setpci prints two hex digits a byte, GRUB no zero in front
abbrev pub value_text : Form → Write → List ℕ
value_text Setpci w = hex_number (if w.width == 2 then 4 else 8) w.value
value_text Grub w = digits 16 false w.value

-- a word, function, register and value
abbrev pub register_and_value : Form → List ℕ → Write → List ℕ
register_and_value form word w =
    word ++ slot_field w.slot ++ field (register_name w) ++ field (value_text form w)

abbrev pub compare_line : Form → Write → List ℕ
compare_line form w = register_and_value form (codes "compare") w ++ 10 ∷ []

-- the line of a write, with its number
abbrev pub put_line : Form → ℕ → Write → List ℕ
put_line form number w =
    register_and_value form (codes "put") w ++ field (decimal number) ++ 10 ∷ []

-- a line for each write, from this number on
abbrev pub put_lines : Form → ℕ → List Write → List ℕ
put_lines form number [] = []
put_lines form number (w ∷ writes) =
    put_line form number w ++ put_lines form (number + 1) writes

-- ---- the script

abbrev pub head_of : Form → List ℕ
head_of Setpci = SETPCI_HEAD.now
head_of Grub = GRUB_HEAD.now

abbrev pub script_end : Form → List ℕ
script_end Setpci = SETPCI_END.now
script_end Grub = GRUB_END.now

-- registers are compared, then writes are made
abbrev pub script : Form → List Block → List Write → List ℕ
script form dump writes =
    head_of form ++ flat_map (compare_line form) (compared_with dump writes)
    ++ put_lines form 1 writes ++ script_end form
