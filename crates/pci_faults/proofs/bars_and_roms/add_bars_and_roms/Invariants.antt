use Rattle.pci_faults.specs.Needed.{AreBarsAdded}
use Rattle.pci_faults.proofs.AllClashing.{IsBelow}
use Rattle.pci_faults.proofs.bars_and_roms.add_bars_and_roms.Given as goal

abbrev pub invariant-loop-bus : goal.invariant-loop-bus
invariant-loop-bus g l = AreBarsAdded (IsBelow l.bus) l.outline l.fn.out.items l.out.items
