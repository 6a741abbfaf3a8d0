use Rattle.std.proofs.Common.{◌≡◌, ◌++◌, map, take}
use Rattle.pci_function.specs.declared.fault.Fault.TheVariants.{Orphan}
use Rattle.pci_faults.proofs.before.add_orphans.Given as goal

abbrev pub invariant-loop-slot : goal.invariant-loop-slot
invariant-loop-slot g l = l.faults.items ≡ l.fn.faults.items ++ map (λ slot. Orphan slot) (take l.slot-index l.slots)
