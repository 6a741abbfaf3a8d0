use Rattle.std.proofs.Common.{◌≡◌, map, take}
use Rattle.pci_plan.specs.Writes.{write_value}
use Rattle.pci_script.proofs.compared.slots_of.Given as goal

abbrev pub invariant-loop-write : goal.invariant-loop-write
invariant-loop-write g l = l.slots.items ≡ map (λ w. w.slot) (map write_value (take l.write-index l.writes))
