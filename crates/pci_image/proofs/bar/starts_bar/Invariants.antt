use Rattle.std.proofs.Common.{◌≡◌}
use Rattle.pci_spec.specs.Bar as bar
use Rattle.pci_image.proofs.bar.starts_bar.Given as goal

abbrev pub invariant-loop-i : goal.invariant-loop-i
invariant-loop-i l = l.starts ≡ bar.starts_bar l.probe.0 l.i
