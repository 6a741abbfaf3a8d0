-- What ISA Enable leaves of I/O windows.
use Rattle.std.specs.Prelude.{ℕ, ◌*◌, ◌%◌, ◌<◌, ◌≤◌, ◌↔◌, Bool, ◌&&◌, false, IsFalse, List}
use Rattle.pci_spec.specs.Slot.{Slot}
use Rattle.pci_spec.specs.System.{Space, Io, Memory}
use Rattle.pci_base.specs.declared.range.Range.{Range}
use Rattle.pci_tree.specs.declared.region.Region.{Region}
use Rattle.pci_tree.specs.Ranges.{Covers, IsCanonical}
use Rattle.pci_tree.specs.Regions.{is_of_window}
use Rattle.judge_spec.specs.Given.{Given, has_isa, is_isa_port}

-- whether it takes addresses of a space from the windows of the bridge at a slot
abbrev pub cuts : Given → Space → Slot → Bool
cuts given Io slot = has_isa given slot
cuts given Memory slot = false

-- whether it takes addresses of a space from the region
abbrev pub is_cut_region : Given → Space → Region → Bool
is_cut_region given space r = is_of_window r.part && cuts given space r.slot

-- the first 256 ports of each of so many KB
pub record ArePortBlocks (kilobytes : ℕ) (out : List Range) : Type 0 where
  pub canonical : IsCanonical out
  pub exact : (a : ℕ) → Covers out a ↔ ((a < kilobytes * 0x400) × (a % 0x400 < 0x100))

-- of the ports up to the last one those that ISA Enable leaves
pub record ArePortsKept (last : ℕ) (out : List Range) : Type 0 where
  pub canonical : IsCanonical out
  pub exact : (a : ℕ) → a ≤ last → Covers out a ↔ IsFalse (is_isa_port a)

-- the addresses of some ranges that ISA Enable leaves
pub record AreLeftByIsa (rs out : List Range) : Type 0 where
  pub canonical : IsCanonical out
  pub exact : (a : ℕ) → Covers out a ↔ (Covers rs a × IsFalse (is_isa_port a))
