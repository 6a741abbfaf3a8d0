use Rattle.std.proofs.Common.{◌-◌, length}
use Rattle.pci_base.specs.WindowKinds.{kind_value}
use Rattle.pci_grow.proofs.Putting.{ArePutFrom}
use Rattle.pci_grow.proofs.put_all.put_all.Given as goal

abbrev pub invariant-loop-done : goal.invariant-loop-done
invariant-loop-done l = ArePutFrom (kind_value l.class) l.items l.places l.initial.table l.table (length l.items - l.done)
