-- Flags by slot number.
use Rattle.std.specs.Prelude.{◌≡◌, Bool, false, List, length, slice_index_or}
use Rattle.std.specs.List.{list_any}
use Rattle.pci_spec.specs.Slot.{Slot, IsSlot, same_slot, slot_number}

-- there is one for each slot, which tells whether it is one of some
pub record AreFlags (slots : List Slot) (flags : List Bool) : Type 0 where
  pub size : length flags ≡ 65536
  pub each : (slot : Slot) → IsSlot slot
      → slice_index_or flags (slot_number slot) false ≡ list_any (same_slot slot) slots
