-- Why a block can't stand at the end of sizes.
use Rattle.std.specs.Prelude.{◌≡◌, ◌<◌, List, [], ◌∷◌, ◌++◌, length}
use Rattle.pci_spec.specs.Slot.{IsRising}
use Rattle.pci_spec.specs.SizesText.{SizesBlock, sized_slots}
use Rattle.pci_dump.specs.declared.dump.PushFault.{PushFault}
use Rattle.pci_dump.specs.declared.dump.PushFault.TheVariants.{NotAbove, Full}
use Rattle.pci_base.specs.declared.memory.Refused.{Refused}
use Rattle.pci_base.specs.declared.memory.Refused.TheVariants.{Fault, Memory}

-- its slot isn't above the last one; it is, and there is no room; there is room, and a growth was refused
abbrev pub IsNotPushed : List SizesBlock → SizesBlock → Refused PushFault → Type 0
IsNotPushed blocks block (Fault NotAbove) = IsRising (sized_slots (blocks ++ block ∷ [])) → ⊥
IsNotPushed blocks block (Fault Full) =
    IsRising (sized_slots (blocks ++ block ∷ [])) × (length blocks ≡ 4096)
IsNotPushed blocks block Memory =
    IsRising (sized_slots (blocks ++ block ∷ [])) × (length blocks < 4096)
