use Rattle.pci_spec.specs.System.{System}
use Rattle.settle_spec.specs.Lists.{Request}
use Rattle.settle_spec.specs.Kept.{Kept}
use Rattle.settle_spec.specs.Keeping.Writes.{would_be_switched}
use Rattle.pci_settle.specs.ToldEndings.{known_told_value, KnowsTold, AreFlagsThen, AreClearAbove, AlwaysStand}
use Rattle.pci_settle.proofs.ToldFirsts.{HasNoneTo}
use Rattle.pci_settle.proofs.told.first_switched.Given as goal

abbrev pub invariant-loop-index : goal.invariant-loop-index
invariant-loop-index l = (q : Request) (s : System) (k : Kept) → KnowsTold q s (known_told_value l.told) → AreFlagsThen q s k l.on_then → AreClearAbove q s k l.ways → AlwaysStand q s
    → HasNoneTo q (would_be_switched q s k) l.index
