use Rattle.std.proofs.Common.{List, take}
use Rattle.pci_spec.specs.Slot.{Slot}
use Rattle.pci_model_settle.specs.SleepTables.{IsSlotTable, IsBelowTable}
use Rattle.pci_model_settle.proofs.unmoved.below_table.Given as goal

abbrev pub invariant-loop-block : goal.invariant-loop-block
invariant-loop-block l = (slots : List Slot) → IsSlotTable slots l.sleeping → IsBelowTable slots (take l.block-index l.blocks) l.below
