-- Clashes and splits in each system with a tree.
use Rattle.std.specs.Prelude.{◌≡◌, ℕ, ◌<◌, List}
use Rattle.std.specs.List.{AllPairs, Contains}
use Rattle.pci_spec.specs.System.{System, Space, Io, Memory}
use Rattle.pci_spec.specs.Order.{IsFirst}
use Rattle.pci_spec.specs.JudgingLaws.{HasNoUnreached, HasNoClash, HasNoClashAt, HasNoSplit, HasNoSplitAt}
use Rattle.pci_function.specs.declared.fault.Fault.{Fault}
use Rattle.pci_tree.specs.declared.region.Region.{Region}
use Rattle.pci_function.specs.Fault.{fault_of}
use Rattle.pci_tree.specs.Outline.{Tree}
use Rattle.pci_tree.specs.Regions.{IsRegionOn, HasEachRegion, region_number as number_of}
use Rattle.pci_tree.specs.Trees.{HasTree}

-- in each system with the tree no regions of the bus and space clash
abbrev pub NoneClashOn : Tree → ℕ → Space → Type 0
NoneClashOn t bus space = (s : System) → HasTree t s → (a : ℕ) → HasNoClashAt t.roots s bus space a

-- the first fault, where it is a clash on this bus and in this space
abbrev pub IsClashFaultOn : Tree → ℕ → Space → Fault → Type 0
IsClashFaultOn t bus space fault =
    (s : System) → HasTree t s → HasNoUnreached t.roots s
    → ((b : ℕ) → b < bus → (sp : Space) (a : ℕ) → HasNoClashAt t.roots s b sp a)
    → (space ≡ Memory → (a : ℕ) → HasNoClashAt t.roots s bus Io a)
    → IsFirst t.roots s (fault_of fault)

-- the first fault, where it is a clash on this bus
abbrev pub IsClashFaultOnBus : Tree → ℕ → Fault → Type 0
IsClashFaultOnBus t bus fault =
    (s : System) → HasTree t s → HasNoUnreached t.roots s
    → ((b : ℕ) → b < bus → (sp : Space) (a : ℕ) → HasNoClashAt t.roots s b sp a)
    → IsFirst t.roots s (fault_of fault)

-- no regions clash
abbrev pub NoneClash : Tree → Type 0
NoneClash t = (s : System) → HasTree t s → HasNoClash t.roots s

abbrev pub IsClashFault : Tree → Fault → Type 0
IsClashFault t fault =
    (s : System) → HasTree t s → HasNoUnreached t.roots s → IsFirst t.roots s (fault_of fault)

-- the regions of some buses and a space, by slot and register
pub record AreRegionsOn (s : System) (IsOne : ℕ → Type 0) (space : Space)
    (regions : List Region) : Type 0 where
  pub each : (q : Region) → Contains regions q → (bus : ℕ) × IsOne bus × IsRegionOn s bus space q
  pub complete : (bus : ℕ) → IsOne bus → HasEachRegion s bus space regions
  pub rising : AllPairs (λ r q. number_of r < number_of q) regions

-- the regions of all root buses, in each system with the tree
abbrev pub AreRootsListed : Tree → Space → List Region → Type 0
AreRootsListed t space regions =
    (s : System) → HasTree t s → AreRegionsOn s (Contains t.roots) space regions

-- in each system with the tree no regions of the space are split
abbrev pub NoneSplitIn : Tree → Space → Type 0
NoneSplitIn t space = (s : System) → HasTree t s → (a : ℕ) → HasNoSplitAt t.roots s space a

abbrev pub IsSplitFaultIn : Tree → Space → Fault → Type 0
IsSplitFaultIn t space fault =
    (s : System) → HasTree t s → HasNoUnreached t.roots s → HasNoClash t.roots s
    → (space ≡ Memory → (a : ℕ) → HasNoSplitAt t.roots s Io a)
    → IsFirst t.roots s (fault_of fault)

abbrev pub NoneSplit : Tree → Type 0
NoneSplit t = (s : System) → HasTree t s → HasNoSplit t.roots s

abbrev pub IsSplitFault : Tree → Fault → Type 0
IsSplitFault t fault =
    (s : System) → HasTree t s → HasNoUnreached t.roots s → HasNoClash t.roots s
    → IsFirst t.roots s (fault_of fault)
