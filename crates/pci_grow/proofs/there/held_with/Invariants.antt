use Rattle.std.proofs.Common.{◌≡◌, take}
use Rattle.pci_base.specs.WindowKinds.{kind_value}
use Rattle.pci_grow.specs.There.{tables_of, there_of_class, holding}
use Rattle.pci_grow.proofs.there.held_with.Given as goal

abbrev pub invariant-loop-region : goal.invariant-loop-region
invariant-loop-region g l =
    l.held ≡ holding l.fn.window (there_of_class (kind_value l.class) (tables_of l.there) (take l.region-index l.row))
