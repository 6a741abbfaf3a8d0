use Rattle.std.proofs.Common.{◌≡◌}
use Rattle.pci_settle.specs.Alike.{bars_alike}
use Rattle.pci_settle.proofs.AlikeParts.{alike_from}
use Rattle.pci_settle.proofs.alike.bars_alike.Given as goal

-- what is passed is alike
abbrev pub invariant-loop-n : goal.invariant-loop-n
invariant-loop-n l = bars_alike l.count l.one l.other ≡ alike_from l.one l.other l.n l.count
