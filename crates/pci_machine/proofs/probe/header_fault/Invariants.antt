use Rattle.std.proofs.Common.{◌≡◌, take, None}
use Rattle.pci_spec.specs.ProbeOf.{first_of, identity_fault}
use Rattle.pci_machine.proofs.probe.header_fault.Given as goal

abbrev pub invariant-loop-block : goal.invariant-loop-block
invariant-loop-block l = first_of identity_fault (take l.block-index l.dump) ≡ None
