-- Told ranges that are on.
use Rattle.std.specs.Prelude.{◌≡◌, Bool, List, length, map}
use Rattle.pci_spec.specs.System.{System}
use Rattle.pci_tree.specs.Outline.{Tree}
use Rattle.pci_tree.specs.Trees.{HasTree}
use Rattle.judge_spec.specs.ToldClaims.{Told, is_range_on}

-- of each told range whether it is on, in each system with the tree
pub record AreOnIn (told : Told) (t : Tree) (on : List Bool) : Type 0 where
  pub size : length on ≡ length told.ranges
  pub each : (s : System) → HasTree t s → on ≡ map (is_range_on told s) told.ranges
