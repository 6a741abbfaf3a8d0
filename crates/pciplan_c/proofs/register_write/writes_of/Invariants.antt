use Rattle.std.proofs.Common.{◌≡◌, map, take}
use Rattle.pci_plan.specs.Writes.{write_value}
use Rattle.pciplan_c.specs.RegisterWrites.{write_value_of}
use Rattle.pciplan_c.proofs.register_write.writes_of.Given as goal

abbrev pub invariant-loop-write : goal.invariant-loop-write
invariant-loop-write g l = map write_value_of l.all.items ≡ map write_value (take l.write-index l.writes)
