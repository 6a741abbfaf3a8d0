-- What is mapped: told ranges with whether each is on, and the systems that are spoken of.
use Rattle.std.specs.Prelude.{Bool, List, Option}
use Rattle.pci_spec.specs.System.{System}
use Rattle.pci_tree.specs.Outline.{Tree}
use Rattle.pci_tree.specs.Trees.{HasTree}
use Rattle.judge_spec.specs.Given.{Given}
use Rattle.judge_spec.specs.Told.{IsTold}
use Rattle.judge_spec.specs.ToldClaims.{Told}
use Rattle.pci_claims.specs.ToldOn.{AreOnIn}
use Rattle.pci_map.specs.Seats.{IsToldOfListedSlots}
use Rattle.pci_map.specs.Addresses.{SpaceRanges}
use Rattle.pci_map.specs.Above.{AreSentAbove}
use Rattle.pci_map.specs.declared.takers.Taker.{Taker}
use Rattle.pci_map.specs.Windows.{BridgeWindows}
use Rattle.pci_map.specs.Ways.{AreWays}
use Rattle.pci_map.specs.Takers.{AreTakers}

-- ranges of a text, and of each whether it is on
pub record AreToldOn (told : Told) (t : Tree) (on : List Bool) : Type 0 where
  pub lawful : IsTold told.ranges
  pub each_on : AreOnIn told t on

-- a system with an outline's records, with what is told and what is sent to the root above each bus
pub record IsSystemOf (told : Told) (given : Given) (t : Tree) (above : List SpaceRanges)
    (s : System) : Type 0 where
  pub tree : HasTree t s
  pub sent : AreSentAbove given t s above
  pub is_told : IsToldOfListedSlots told s

-- the same, with the windows above each bus, and the bridges that take what nobody claims
pub record IsSystemWith (told : Told) (given : Given) (t : Tree) (above : List SpaceRanges)
    (ways : List (Option BridgeWindows)) (takers : List Taker) (s : System) : Type 0 where
  pub is : IsSystemOf told given t above s
  pub ways_are : AreWays given t.roots s ways
  pub takers_are : AreTakers given t.roots s takers
