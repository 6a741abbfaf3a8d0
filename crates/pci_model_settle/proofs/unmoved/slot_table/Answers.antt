use Rattle.pci_model_settle.proofs.Sleeping.{no_slots}
use Rattle.pci_model_settle.proofs.unmoved.slot_table.Goals as goal

pub loop-slot-init : goal.loop-slot-init
loop-slot-init c = no_slots
