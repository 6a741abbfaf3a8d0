-- The judgement, from its searches.
use Rattle.std.proofs.Common.{Option, None, Some}
use Rattle.std.specs.Prelude.{MatchOption}
use Rattle.pci_spec.specs.System.{System}
use Rattle.pci_spec.specs.JudgingLaws.{HasNoUnreached}
use Rattle.pci_spec.proofs.Verdicts.{single_without_clashes, home_without_unreached}
use Rattle.pci_function.specs.declared.fault.Fault.{Fault}
use Rattle.pci_tree.specs.Outline.{Tree}
use Rattle.pci_tree.specs.Trees.{HasTree}
use Rattle.pci_check.specs.Stops.{AlwaysNested}
use Rattle.pci_check.specs.Clashes.{NoneClash, NoneSplit, IsSplitFault}
use Rattle.pci_check.specs.Judgement.{AreHome, IsFirstInEach, IsJudgement}
use Rattle.pci_check.proofs.Clashing.{IsAnswerBelow, none_clash_at_all}

none_unreached : (t : Tree) → AlwaysNested t → AreHome t → (s : System) → HasTree t s → HasNoUnreached t.roots s
none_unreached t nested home s tree = (home_without_unreached t.roots s tree.system (nested s tree)).0 (home s tree)

-- where each region is reached, what was found on all buses
pub answer_on_buses : (t : Tree) → AlwaysNested t → AreHome t → (o : Option Fault) → IsAnswerBelow t 256 o → MatchOption o (AreHome t × NoneClash t) (λ fault. IsFirstInEach t fault)
answer_on_buses t nested home None below = (home, none_clash_at_all t below)
answer_on_buses t nested home (Some fault) is = λ s tree. is s tree (none_unreached t nested home s tree)

-- where no fault was found on a bus, what was found over the roots
pub answer_over_roots : (t : Tree) → AlwaysNested t → AreHome t × NoneClash t → (o : Option Fault) → MatchOption o (NoneSplit t) (λ fault. IsSplitFault t fault) → IsJudgement t o
answer_over_roots t nested (home, apart) None whole = λ s tree. ((single_without_clashes t.roots s).1 (apart s tree, whole s tree), home s tree)
answer_over_roots t nested (home, apart) (Some fault) is = λ s tree. is s tree (none_unreached t nested home s tree) (apart s tree)
