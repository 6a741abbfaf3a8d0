use Rattle.pci_spec.specs.Number.{IsImage}
use Rattle.pci_machine.specs.Masks.{AddsField}
use Rattle.pci_machine.proofs.mask.add.Given as goal

abbrev pub invariant-loop-j : goal.invariant-loop-j
invariant-loop-j l = record {
  image : IsImage l.bytes;
  added : AddsField l.initial.bytes l.bytes record { offset = l.off; width = l.j; bits = l.bits };
}
