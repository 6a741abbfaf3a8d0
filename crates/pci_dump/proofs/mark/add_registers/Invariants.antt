use Rattle.std.proofs.Common.{◌≡◌, ◌++◌, map, take}
use Rattle.pci_spec.specs.Mark.{assumed_at}
use Rattle.pci_dump.proofs.mark.add_registers.Given as goal

abbrev pub invariant-loop-register : goal.invariant-loop-register
invariant-loop-register g l = l.named.items ≡ l.initial.named.items ++ map (assumed_at l.slot) (take l.register-index l.registers)
