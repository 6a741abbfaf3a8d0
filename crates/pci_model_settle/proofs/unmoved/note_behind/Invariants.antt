use Rattle.pci_model_settle.proofs.Sleeping.{IsNoted}
use Rattle.pci_model_settle.proofs.unmoved.note_behind.Given as goal

abbrev pub invariant-loop-bus : goal.invariant-loop-bus
invariant-loop-bus l = IsNoted l.fn.table l.first l.end l.bus l.table
