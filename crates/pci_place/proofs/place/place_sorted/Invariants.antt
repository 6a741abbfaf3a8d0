use Rattle.std.proofs.Common.{length}
use Rattle.pci_base.specs.WindowKinds.{kind_value}
use Rattle.pci_place.specs.Sorting.{SortedClass}
use Rattle.pci_place.proofs.Walking.{IsWalked}
use Rattle.pci_place.proofs.place.place_sorted.Given as goal

abbrev pub invariant-loop-item : goal.invariant-loop-item
invariant-loop-item l = (of : SortedClass (kind_value l.class) (length l.fn.places) l.start l.items)
    → IsWalked of l.fn.places l.places l.starts l.group l.next l.item-index
