-- Writes to functions as words take them, as writes to the functions of a dump; and the dump after writes.
use Rattle.std.specs.Prelude.{ℕ, ◌+◌, ◌*◌, ◌/◌, ◌%◌, ◌==◌, if◌then◌else◌, List, [], ◌∷◌, map}
use Rattle.pci_spec.specs.Slot.{Slot, same_slot}
use Rattle.pci_spec.specs.Registers.{COMMAND}
use Rattle.pci_spec.specs.Header.{command}
use Rattle.pci_spec.specs.Text.{Block}
use Rattle.pci_spec.specs.Machine.{Write}
use Rattle.judge_spec.specs.Windows.{with_number}

-- Command of the function at a slot; 0 where none is there
abbrev pub listed_command : List Block → Slot → ℕ
listed_command [] slot = 0
listed_command (b ∷ blocks) slot = if same_slot b.slot slot then command b.image else listed_command blocks slot

-- A write of Command sets its bits 0 and 1, and leaves all others as the dump has them (PCI 3.0, 6.2.2).
abbrev pub listed_write : List Block → Write → Write
listed_write blocks w =
    if w.offset == COMMAND then record w { value = listed_command blocks w.slot / 4 * 4 + w.value % 4 }
    else w

-- a function's block after a write
abbrev pub block_after : Write → Block → Block
block_after w b =
    if same_slot b.slot w.slot then record b { image = with_number w.width w.offset w.value b.image }
    else b

-- the blocks after some writes, in their order
abbrev pub blocks_after : List Block → List Write → List Block
blocks_after blocks [] = blocks
blocks_after blocks (w ∷ writes) = blocks_after (map (block_after w) blocks) writes
