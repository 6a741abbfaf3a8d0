-- The judgement of an outline: no fault, or the first one.
use Rattle.std.specs.Prelude.{Option, MatchOption}
use Rattle.pci_spec.specs.System.{System}
use Rattle.pci_spec.specs.Sound.{IsSingle, IsHome}
use Rattle.pci_spec.specs.Order.{IsFirst}
use Rattle.pci_function.specs.declared.fault.Fault.{Fault}
use Rattle.pci_function.specs.Fault.{fault_of}
use Rattle.pci_tree.specs.Outline.{Tree}
use Rattle.pci_tree.specs.Trees.{HasTree}

-- in every system with the tree each access is of at most one region, and each region is reached
abbrev pub IsFree : Tree → Type 0
IsFree t = (s : System) → HasTree t s → IsSingle t.roots s × IsHome t.roots s

-- in every system with the tree each region is reached
abbrev pub AreHome : Tree → Type 0
AreHome t = (s : System) → HasTree t s → IsHome t.roots s

-- in every system with the tree this is the first fault of judging
abbrev pub IsFirstInEach : Tree → Fault → Type 0
IsFirstInEach t fault = (s : System) → HasTree t s → IsFirst t.roots s (fault_of fault)

abbrev pub IsJudgement : Tree → Option Fault → Type 0
IsJudgement t o = MatchOption o (IsFree t) (λ fault. IsFirstInEach t fault)
