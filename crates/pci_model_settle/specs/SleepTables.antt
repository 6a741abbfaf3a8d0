-- Tables of which functions sleep, and of the buses below bridges that do.
use Rattle.std.specs.Prelude.{◌≡◌, ℕ, ◌<◌, Bool, false, ◌&&◌, List, length, slice_index_or}
use Rattle.std.specs.List.{list_any}
use Rattle.pci_spec.specs.Slot.{Slot, IsSlot, slot_number}
use Rattle.pci_spec.specs.Text.{Block}
use Rattle.pci_spec.specs.System.{is_bridge, function_of}
use Rattle.pci_spec.specs.Bus.{is_behind}
use Rattle.pci_model_settle.specs.Unmoved.{is_among}

-- a table by slot number tells which slots are some
pub record IsSlotTable (slots : List Slot) (table : List Bool) : Type 0 where
  pub size : length table ≡ 65536
  pub each : (slot : Slot) → IsSlot slot
      → slice_index_or table (slot_number slot) false ≡ is_among slots slot

-- whether a block is of a bridge at one of some slots that is above a bus
abbrev pub is_above_by : List Slot → ℕ → Block → Bool
is_above_by slots bus b =
    (is_bridge (function_of b b) && is_behind (function_of b b) bus) && is_among slots b.slot

-- a table by bus tells which are below such bridges
pub record IsBelowTable (slots : List Slot) (blocks : List Block) (table : List Bool) : Type 0 where
  pub size : length table ≡ 256
  pub each : (bus : ℕ) → bus < 256
      → slice_index_or table bus false ≡ list_any (is_above_by slots bus) blocks
