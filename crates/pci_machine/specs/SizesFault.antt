-- The faults of a sizes text, as the definitions have them.
use Rattle.std.specs.Prelude.{◌≡◌, ◌⊎◌, ℕ, ◌%◌, List, [], ◌∷◌, ◌++◌, length}
use Rattle.pci_spec.specs.Slot.{IsRising}
use Rattle.pci_spec.specs.Text.{BadSlot, BadTitle, BadLine, NoBlank, Order, TooMany, Ended}
use Rattle.pci_spec.specs.SizesText.{SizesBlock, IsSizesBlock, sized_slots, sizes_block_text, sizes_text_of, IsSizesFaultOf}
use Rattle.pci_dump.specs.declared.read_fault.ReadFault.{ReadFault}
use Rattle.pci_dump.specs.declared.read_fault.ReadFault.TheVariants as faults

-- it is the fault of this text, and so not of a reader or of memory
abbrev pub IsSizesTextFault : List ℕ → ReadFault → Type 0
IsSizesTextFault bytes faults.Io = ⊥
IsSizesTextFault bytes faults.Memory = ⊥
IsSizesTextFault bytes (faults.BadSlot n) = IsSizesFaultOf bytes (BadSlot n)
IsSizesTextFault bytes (faults.BadTitle n) = IsSizesFaultOf bytes (BadTitle n)
IsSizesTextFault bytes (faults.BadLine n) = IsSizesFaultOf bytes (BadLine n)
IsSizesTextFault bytes (faults.NoBlank n) = IsSizesFaultOf bytes (NoBlank n)
IsSizesTextFault bytes (faults.Order n) = IsSizesFaultOf bytes (Order n)
IsSizesTextFault bytes (faults.TooMany n) = IsSizesFaultOf bytes (TooMany n)
IsSizesTextFault bytes (faults.Ended n) = IsSizesFaultOf bytes (Ended n)

-- It is the fault of each text of these blocks and bytes that goes on so; it ends after bytes that are no whole blocks.
abbrev pub IsSizesFaultAfter : List SizesBlock → List ℕ → ReadFault → Type 0
IsSizesFaultAfter blocks bytes fault =
    (more : List ℕ) → (length bytes % 408 ≡ 0) ⊎ (more ≡ [])
    → IsSizesTextFault (sizes_text_of blocks ++ (bytes ++ more)) fault

-- the bytes are no block that may stand after these
abbrev pub IsNoBlockAfter : List SizesBlock → List ℕ → Type 0
IsNoBlockAfter blocks bytes =
    (b : SizesBlock) → IsSizesBlock b → bytes ≡ sizes_block_text b
    → IsRising (sized_slots (blocks ++ b ∷ [])) → ⊥
