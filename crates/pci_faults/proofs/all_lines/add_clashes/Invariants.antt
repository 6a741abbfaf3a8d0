use Rattle.std.proofs.Common.{◌≡◌, ◌++◌, map, take}
use Rattle.pci_faults.specs.declared.any_fault.AnyFault.TheVariants as codes
use Rattle.pci_faults.proofs.all_lines.add_clashes.Given as goal

abbrev pub invariant-loop-fault : goal.invariant-loop-fault
invariant-loop-fault g l = l.faults.items ≡ l.fn.faults.items ++ map (λ f. codes.Clash f) (take l.fault-index l.clashes)
