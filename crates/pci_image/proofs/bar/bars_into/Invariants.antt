use Rattle.pci_image.proofs.Reading.{HasRead}
use Rattle.pci_image.proofs.bar.bars_into.Given as goal

abbrev pub invariant-loop-n : goal.invariant-loop-n
invariant-loop-n l = HasRead l.image.0 l.probe.0 l.n l.is_upper_half l.found.items
