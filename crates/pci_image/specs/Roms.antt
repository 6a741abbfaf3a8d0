-- The ROM of the code as that of the definitions, and what its rule says.
use Rattle.std.specs.Prelude.{ℕ, ◌≤◌, ◌↔◌, ◌&&◌, Bool, true, false, IsFalse, List, Option, None, Some}
use Rattle.pci_spec.specs.Number.{some_from}
use Rattle.pci_spec.specs.Bar.{is_within}
use Rattle.pci_spec.specs.Rom.{is_rom_size, breaks_rom_rule, RomDecodes}
use Rattle.pci_spec.specs.Decoded.{DecodedRom}
use Rattle.pci_spec.specs.Fault.{has_no_vendor, has_other_layout}
use Rattle.pci_image.specs.declared.rom.Rom.{Rom}
use Rattle.pci_image.specs.declared.fault.ImageFault.{ImageFault}
use Rattle.pci_image.specs.declared.fault.ImageFault.TheVariants.{NoVendor, HeaderKind, RomMask}

-- the ROM as the definitions have it
abbrev pub decoded_rom_of : Rom → DecodedRom
decoded_rom_of rom = record {
  register = rom.reg;
  on = rom.on;
  range = record { first = rom.first; last = rom.last };
}

-- whether a value and read back are those of a ROM
abbrev pub is_lawful_rom : ℕ → ℕ → Bool
is_lawful_rom value mask = some_from 0 64 (is_rom_size mask) && is_within 1 value mask

-- a function answers, its header is of one of the two layouts, and its ROM breaks no rule
pub record HasLawfulRom (image probe : List ℕ) : Type 0 where
  pub vendor : IsFalse (has_no_vendor image)
  pub header : IsFalse (has_other_layout image)
  pub rom : IsFalse (breaks_rom_rule image probe)

-- the addresses from first to last are those that the ROM's comparator answers; without a ROM there is none
abbrev pub IsComparedRom : List ℕ → List ℕ → Option Rom → Type 0
IsComparedRom image probe None = (a : ℕ) → RomDecodes image probe a → ⊥
IsComparedRom image probe (Some rom) =
    (a : ℕ) → ((rom.first ≤ a) × (a ≤ rom.last)) ↔ RomDecodes image probe a

-- whether a fault is one that the ROM is refused for
abbrev pub is_rom_fault : ImageFault → Bool
is_rom_fault NoVendor = true
is_rom_fault HeaderKind = true
is_rom_fault (RomMask register) = true
is_rom_fault _ = false
