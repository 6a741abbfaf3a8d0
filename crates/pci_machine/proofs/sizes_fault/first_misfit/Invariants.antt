use Rattle.std.proofs.Common.{take}
use Rattle.pci_spec.specs.Form.{Fits}
use Rattle.pci_spec.specs.SizesForm.{sizes_cells}
use Rattle.pci_machine.proofs.sizes_fault.first_misfit.Given as goal

abbrev pub invariant-loop-place : goal.invariant-loop-place
invariant-loop-place l = Fits (take l.place sizes_cells) (take l.place l.bytes)
