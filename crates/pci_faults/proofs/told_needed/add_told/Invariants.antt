use Rattle.pci_tree.specs.Outline.{Tree}
use Rattle.pci_claims.specs.Values.{told_value}
use Rattle.pci_faults.specs.Needed.{AreNeededAppended}
use Rattle.pci_claims.specs.ToldOn.{AreOnIn}
use Rattle.pci_faults.proofs.ToldListing.{IsOfRangeAt, Below}
use Rattle.pci_faults.proofs.told_needed.add_told.Given as goal

abbrev pub invariant-loop-index : goal.invariant-loop-index
invariant-loop-index g l = (t : Tree) → AreOnIn (told_value l.told) t l.on → AreNeededAppended (IsOfRangeAt (told_value l.told) (Below l.index)) t l.fn.out.items l.out.items
