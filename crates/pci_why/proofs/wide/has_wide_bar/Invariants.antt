use Rattle.std.proofs.Common.{take}
use Rattle.std.specs.List.{All}
use Rattle.pci_why.specs.Wide.{IsWideAt}
use Rattle.pci_why.proofs.wide.has_wide_bar.Given as goal

abbrev pub invariant-loop-bar : goal.invariant-loop-bar
invariant-loop-bar l = All (λ b. IsWideAt l.reg b → ⊥) (take l.bar-index l.bars)
