-- Lists of faults of judging that are of one kind, each once.
use Rattle.std.specs.Prelude.{◌≡◌, ◌++◌, List}
use Rattle.std.specs.List.{AllPairs, Contains}
use Rattle.pci_spec.specs.System.{System}
use Rattle.pci_spec.specs.Fault as plain
use Rattle.pci_spec.specs.Order.{judging_key}
use Rattle.pci_tree.specs.Outline.{Tree}
use Rattle.pci_tree.specs.Trees.{HasTree}

-- the list has just the faults that are such, each once
pub record AreJustLines (P : plain.Fault → Type 0) (list : List plain.Fault) : Type 0 where
  pub each : (f : plain.Fault) → Contains list f → P f
  pub complete : (f : plain.Fault) → P f → Contains list f
  pub distinct : AllPairs (λ f g. judging_key f ≡ judging_key g → ⊥) list

-- such faults, in each system with the tree, come behind those of a list
pub record AreFaultsAppended (t : Tree) (P : System → plain.Fault → Type 0)
    (before after : List plain.Fault) : Type 0 where
  pub more : List plain.Fault
  pub appended : after ≡ before ++ more
  pub just : (s : System) → HasTree t s → AreJustLines (P s) more
