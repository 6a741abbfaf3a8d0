use Rattle.std.proofs.Common.{take}
use Rattle.pci_spec.specs.System.{System}
use Rattle.judge_spec.specs.Given.{Given}
use Rattle.judge_spec.specs.ToldClaims.{Told}
use Rattle.pci_base.specs.Space.{space_of}
use Rattle.pci_tree.specs.Outline.{Tree}
use Rattle.pci_map.specs.Above.{AreSentAbove}
use Rattle.pci_map.specs.Ways.{AreWays}
use Rattle.pci_map.specs.Asides.{AreFoundBy, HasNoAside}
use Rattle.pci_map.proofs.asides.has_aside.Given as goal

abbrev pub invariant-loop-region : goal.invariant-loop-region
invariant-loop-region g l =
    (told : Told) (given : Given) (t : Tree) (s : System) → AreSentAbove given t s l.routes.above.now → AreWays given t.roots s l.routes.ways.now → AreFoundBy s l.slot (space_of l.space) l.regions
    → HasNoAside told given t.roots s (space_of l.space) (take l.region-index l.regions)
