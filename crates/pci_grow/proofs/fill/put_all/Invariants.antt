use Rattle.std.proofs.Common.{map}
use Rattle.pci_tree.specs.Roots.{buses_of}
use Rattle.pci_grow.proofs.Filled.{ArePutTo}
use Rattle.pci_grow.proofs.fill.put_all.Given as goal

abbrev pub invariant-loop-part : goal.invariant-loop-part
invariant-loop-part g l = ArePutTo (buses_of l.roots) l.parts (map (λ v. v.items) l.initial.rows) (map (λ v. v.items) l.rows) l.part-index
