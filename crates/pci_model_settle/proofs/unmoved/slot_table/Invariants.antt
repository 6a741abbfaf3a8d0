use Rattle.std.proofs.Common.{take}
use Rattle.pci_model_settle.specs.SleepTables.{IsSlotTable}
use Rattle.pci_model_settle.proofs.unmoved.slot_table.Given as goal

abbrev pub invariant-loop-slot : goal.invariant-loop-slot
invariant-loop-slot l = IsSlotTable (take l.slot-index l.slots) l.table
