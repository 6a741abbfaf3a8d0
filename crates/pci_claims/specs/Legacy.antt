-- The pieces of legacy parts and of palette parts.
use Rattle.std.specs.Prelude.{◌≡◌, ℕ, ◌*◌, ◌%◌, ◌<◌, ◌≤◌, ◌↔◌, ◌⊎◌, Bool, true, false, IsTrue, List, length}
use Rattle.pci_base.specs.declared.range.Range.{Range}
use Rattle.pci_spec.specs.Registers.{BRIDGE_CONTROL, COMMAND}
use Rattle.pci_spec.specs.System.{Space, Io}
use Rattle.pci_tree.specs.Ranges.{Holds, Covers, IsCanonical}
use Rattle.judge_spec.specs.Given.{Given, LegacyBridge, legacy_holds, palette_holds}
use Rattle.judge_spec.specs.Claims as spec
use Rattle.pci_claims.specs.declared.legacy.FixedPart.{FixedPart}
use Rattle.pci_claims.specs.declared.legacy.FixedPart.TheVariants.{Legacy, Palette}

-- ---- either part

-- the part as the definitions have it
abbrev pub fixed_part_of : FixedPart → spec.Part
fixed_part_of Legacy = spec.Legacy
fixed_part_of Palette = spec.Palette

-- the register that names it
abbrev pub register_of_part : FixedPart → ℕ
register_of_part Legacy = BRIDGE_CONTROL
register_of_part Palette = COMMAND

-- whether the part has an address
abbrev pub part_holds : FixedPart → Bool → Space → ℕ → Bool
part_holds Legacy is_wide space a = legacy_holds is_wide space a
part_holds Palette is_wide space a = palette_holds is_wide space a

-- the bridges that have it
abbrev pub bridges_with : Given → FixedPart → List LegacyBridge
bridges_with given Legacy = given.legacy
bridges_with given Palette = given.palette

-- the addresses that it has
pub record ArePartPieces (part : FixedPart) (is_wide : Bool) (space : Space)
    (out : List Range) : Type 0 where
  pub canonical : IsCanonical out
  pub exact : (a : ℕ) → Covers out a ↔ IsTrue (part_holds part is_wide space a)

-- ---- each of them

-- the addresses of a legacy part, in 128 ranges at most
pub record ArePieces (is_wide : Bool) (space : Space) (out : List Range) : Type 0 where
  pub canonical : IsCanonical out
  pub few : length out ≤ 128
  pub exact : (a : ℕ) → Covers out a ↔ IsTrue (legacy_holds is_wide space a)

-- the ports of a palette part, in 128 ranges at most
pub record ArePalettePieces (is_wide : Bool) (out : List Range) : Type 0 where
  pub canonical : IsCanonical out
  pub few : length out ≤ 128
  pub exact : (a : ℕ) → Covers out a ↔ IsTrue (palette_holds is_wide Io a)

-- the ports of each, from the start of a KB
abbrev pub vga_low : Range
vga_low = record { first = 0x3b0; last = 0x3bb }

abbrev pub vga_high : Range
vga_high = record { first = 0x3c0; last = 0x3df }

abbrev pub palette_low : Range
palette_low = record { first = 0x3c6; last = 0x3c6 }

abbrev pub palette_high : Range
palette_high = record { first = 0x3c8; last = 0x3c9 }

-- in how many KB of the first 64 they are: in each where the bridge decodes 10 bits
abbrev pub blocks_of : Bool → ℕ
blocks_of true = 1
blocks_of false = 64

-- two ranges of ports in each of so many KB
pub record ArePorts (blocks : ℕ) (low high : Range) (out : List Range) : Type 0 where
  pub canonical : IsCanonical out
  pub two : length out ≡ 2 * blocks
  pub exact : (a : ℕ) → Covers out a
      ↔ ((a < blocks * 0x400) × (Holds low (a % 0x400) ⊎ Holds high (a % 0x400)))
