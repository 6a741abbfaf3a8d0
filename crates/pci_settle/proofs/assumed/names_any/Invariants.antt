use Rattle.std.proofs.Common.{◌≡◌, [], take}
use Rattle.pci_spec.specs.Mark.{all_named}
use Rattle.pci_settle.proofs.assumed.names_any.Given as goal

abbrev pub invariant-loop-block : goal.invariant-loop-block
invariant-loop-block l = all_named (take l.block-index l.probe) ≡ []
