-- Writes of the code as those of the definitions, and the two states of each function by its blocks.
use Rattle.std.specs.Prelude.{ℕ, ◌+◌, ◌==◌, Bool, ◌||◌, if◌then◌else◌, List, [], ◌∷◌, ◌++◌, Option, None, Some}
use Rattle.pci_spec.specs.Number.{has_bit}
use Rattle.pci_spec.specs.Header.{command}
use Rattle.pci_spec.specs.Text.{Block, slot_text, hex_digit}
use Rattle.pci_spec.specs.Line.{byte_field, field, hex_number}
use Rattle.pci_spec.specs.System.{Function}
use Rattle.pci_spec.specs.Machine.{Write}
use Rattle.plan_spec.specs.Planning.PlanWrites.{Change}
use Rattle.pci_plan.specs.declared.write.Write.{Write as CodeWrite}

abbrev pub write_value : CodeWrite → Write
write_value w = record { slot = w.slot; offset = w.off; width = w.width; value = w.value }

-- whether the write is of two or of four bytes
abbrev pub is_two_or_four : CodeWrite → Bool
is_two_or_four w = w.width == 2 || w.width == 4

-- the text of a write: its line without the end
abbrev pub write_text : Write → List ℕ
write_text w =
    slot_text w.slot ++ byte_field w.offset
    ++ (46 ∷ hex_digit w.width ∷ field (hex_number (w.width + w.width) w.value))

abbrev pub printed : CodeWrite → Option (List ℕ)
printed w = if is_two_or_four w then Some (write_text (write_value w)) else None

-- whether Command enables a space
abbrev pub is_image_on : List ℕ → Bool
is_image_on image = has_bit (command image) 0 || has_bit (command image) 1

-- the function of a block, whatever it reads back
abbrev pub bare_function : Block → Function
bare_function b = record { slot = b.slot; image = b.image; probe = [] }

abbrev pub block_change : Block → Block → Change
block_change old new = record { old = bare_function old; new = bare_function new }

-- blocks as they are and as they are to be, side by side
abbrev pub block_changes : List Block → List Block → List Change
block_changes [] news = []
block_changes (old ∷ olds) [] = []
block_changes (old ∷ olds) (new ∷ news) = block_change old new ∷ block_changes olds news
