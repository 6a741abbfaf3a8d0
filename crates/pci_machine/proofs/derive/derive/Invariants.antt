use Rattle.pci_machine.proofs.DerivedRegisters.{HasDerived}
use Rattle.pci_machine.specs.Assuming.{assuming_of}
use Rattle.pci_machine.proofs.derive.derive.Given as goal

abbrev pub invariant-loop-place : goal.invariant-loop-place
invariant-loop-place l = HasDerived (assuming_of l.assuming) l.image.0 l.lines l.layout l.place-items l.place-index l.probe.0 l.assumed.items
