use Rattle.std.proofs.Common.{◌<◌, ℕ, get_or}
use Rattle.pci_image.specs.declared.bar.Bar.{Bar}
use Rattle.pci_plan.proofs.FilledBars.{IsElsewhere}
use Rattle.pci_plan.proofs.numbers.Filling.bar_number.Given as goal

abbrev pub invariant-loop-bar : goal.invariant-loop-bar
invariant-loop-bar l = (k : ℕ) → k < l.bar-index → (d : Bar) → IsElsewhere l.offset (get_or l.bar-items k d)
