use Rattle.pci_spec.specs.System.{System}
use Rattle.settle_spec.specs.Lists.{Request}
use Rattle.settle_spec.specs.Kept.{Kept}
use Rattle.settle_spec.specs.Keeping.Writes.{does_not_stay}
use Rattle.pci_settle.specs.ToldEndings.{known_told_value, KnowsTold, AreKeptAbove}
use Rattle.pci_settle.proofs.ToldFirsts.{HasNoneTo}
use Rattle.pci_settle.proofs.told.first_cut_by.Given as goal

abbrev pub invariant-loop-index : goal.invariant-loop-index
invariant-loop-index l = (q : Request) (s : System) (k : Kept) → KnowsTold q s (known_told_value l.told) → AreKeptAbove q s k l.ways
    → HasNoneTo q (does_not_stay q s k) l.index
