-- What is told of a function's registers and its capabilities list.
use Rattle.std.specs.Prelude.{◌≡◌, ℕ, ◌<◌, IsTrue, List, Some}
use Rattle.pci_spec.specs.Slot.{Slot}
use Rattle.pci_spec.specs.Header.{bar_count, bar_register, layout, rom_register}
use Rattle.pci_spec.specs.Bar.{BarFault, bar_fault}
use Rattle.pci_spec.specs.Bar as bars
use Rattle.pci_spec.specs.Rom.{breaks_rom_rule}
use Rattle.pci_spec.specs.Fault.{Fault, BarType, BarMask, BarPair, RomMask}
use Rattle.pci_image.specs.declared.fault.ImageFault.{ImageFault}
use Rattle.pci_image.specs.Caps.{IsChainFaultIn, IsFirstAlong}
use Rattle.pci_function.specs.Fault.{image_fault_at}

-- the fault of a register that breaks this rule
abbrev pub bar_fault_at : Slot → BarFault → ℕ → Fault
bar_fault_at slot bars.BarType register = BarType slot register
bar_fault_at slot bars.BarMask register = BarMask slot register
bar_fault_at slot bars.BarPair register = BarPair slot register

-- the fault is that of BAR register n
abbrev pub IsBarTold : Slot → List ℕ → List ℕ → ℕ → Fault → Type 0
IsBarTold slot image probe n fault =
    (kind : BarFault) × (fault ≡ bar_fault_at slot kind (bar_register n))
    × (n < bar_count (layout image)) × (bar_fault image probe n ≡ Some kind)

-- it is that of the ROM
abbrev pub IsRomTold : Slot → List ℕ → List ℕ → Fault → Type 0
IsRomTold slot image probe fault =
    (fault ≡ RomMask slot (rom_register (layout image))) × IsTrue (breaks_rom_rule image probe)

-- it is the first along the capabilities list
abbrev pub IsListTold : Slot → List ℕ → Fault → Type 0
IsListTold slot image fault =
    (x : ImageFault) × (fault ≡ image_fault_at slot x) × IsChainFaultIn image x
    × IsFirstAlong image x
