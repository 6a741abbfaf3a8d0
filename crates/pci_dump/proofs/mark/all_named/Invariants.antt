use Rattle.std.proofs.Common.{◌≡◌, take}
use Rattle.pci_spec.specs.Mark.{all_named}
use Rattle.pci_dump.proofs.mark.all_named.Given as goal

abbrev pub invariant-loop-block : goal.invariant-loop-block
invariant-loop-block g l = l.named.items ≡ all_named (take l.block-index l.blocks)
