use Rattle.std.proofs.Common.{◌≡◌, take}
use Rattle.pci_spec.specs.Text.{slots_of}
use Rattle.pci_tree.proofs.pair.first_difference.Given as goal

abbrev pub invariant-loop-i : goal.invariant-loop-i
invariant-loop-i l = take l.i (slots_of l.dump) ≡ take l.i (slots_of l.probe)
