use Rattle.pci_spec.specs.System.{System}
use Rattle.settle_spec.specs.Lists.{Request}
use Rattle.settle_spec.specs.Keeping.Writes.{is_not_reached}
use Rattle.pci_settle.specs.ToldEndings.{known_told_value, KnowsTold}
use Rattle.pci_settle.proofs.ToldFirsts.{HasNoneTo}
use Rattle.pci_settle.proofs.told.first_unreached.Given as goal

abbrev pub invariant-loop-index : goal.invariant-loop-index
invariant-loop-index l = (q : Request) (s : System) → KnowsTold q s (known_told_value l.told) → HasNoneTo q (is_not_reached q s) l.index
