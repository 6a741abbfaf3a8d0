use Rattle.std.proofs.Common.{◌≡◌, take}
use Rattle.pci_model.specs.Subtractive.{taking_blocks}
use Rattle.pci_model.specs.WordsValue.{words_value}
use Rattle.pci_model.proofs.taking.taking.Given as goal

abbrev pub invariant-loop-block : goal.invariant-loop-block
invariant-loop-block g l = l.slots.items ≡ taking_blocks (words_value l.words) l.blocks (take l.block-index l.blocks)
