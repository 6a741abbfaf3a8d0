-- Laws of what is left out of settling: it decodes nothing, so a system is sound with it where it is without it.
use Rattle.std.specs.Prelude.{◌≡◌, ℕ, ◌<◌, IsTrue, IsFalse, List, None}
use Rattle.std.specs.List.{Contains}
use Rattle.pci_spec.specs.Slot.{Slot}
use Rattle.pci_spec.specs.Header.{bar_count, layout}
use Rattle.pci_spec.specs.Bar.{bar_fault}
use Rattle.pci_spec.specs.Rom.{breaks_rom_rule}
use Rattle.pci_spec.specs.Text.{Block, slots_of}
use Rattle.pci_spec.specs.System.{Function, IsSystem, System, system_of}
use Rattle.judge_spec.specs.Given.{Given}
use Rattle.judge_spec.specs.ToldClaims.{Told}
use Rattle.judge_spec.specs.ToldSound.{IsSound}
use Rattle.pci_model_settle.specs.OffDevices.{blocks_without, functions_without, is_off_device, left_out}

-- each function of a system at one of some slots is a device that decodes nothing
abbrev pub AreOffDevices : List Slot → System → Type 0
AreOffDevices left s = (f : Function) → Contains s f → Contains left f.slot → IsTrue (is_off_device f.image)

-- its BARs and its ROM break no rule (PCI 3.0, 6.2.5.1 and 6.2.5.2)
pub record HasLawfulRegisters (f : Function) : Type 0 where
  pub bars : (n : ℕ) → n < bar_count (layout f.image) → bar_fault f.image f.probe n ≡ None
  pub rom : IsFalse (breaks_rom_rule f.image f.probe)

abbrev pub AreLawful : List Slot → System → Type 0
AreLawful left s = (f : Function) → Contains s f → Contains left f.slot → HasLawfulRegisters f

-- What is sound with them is sound without them,
abbrev pub SoundWithout : Type 0
SoundWithout =
    (told : Told) (given : Given) (roots : List ℕ) (left : List Slot) (s : System) → AreOffDevices left s
    → IsSound told given roots s → IsSound told given roots (functions_without left s)

-- and the other way round where their registers are lawful.
abbrev pub SoundWith : Type 0
SoundWith =
    (told : Told) (given : Given) (roots : List ℕ) (left : List Slot) (s : System) → AreOffDevices left s → AreLawful left s
    → IsSound told given roots (functions_without left s) → IsSound told given roots s

-- ---- those that are left out of a dump, of what it is taken as, and of the probe of that

-- Each of them is one of some slots, and of a device that decodes nothing as it is taken.
abbrev pub LeftOutAreOff : Type 0
LeftOutAreOff =
    (unmoved : List Slot) (dump taken probe : List Block) → slots_of dump ≡ slots_of taken → IsSystem (system_of taken probe)
    → ((slot : Slot) → Contains (left_out unmoved dump taken probe) slot → Contains unmoved slot)
    × AreOffDevices (left_out unmoved dump taken probe) (system_of taken probe)

-- The functions of a dump and its probe without address registers are those of the blocks without them.
abbrev pub BlocksWithout : Type 0
BlocksWithout =
    (left : List Slot) (dump probe : List Block) → slots_of dump ≡ slots_of probe
    → system_of (blocks_without left dump) (blocks_without left probe) ≡ functions_without left (system_of dump probe)
