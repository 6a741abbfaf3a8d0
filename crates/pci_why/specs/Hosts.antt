-- What stands behind a region outside the host's ranges.
use Rattle.std.specs.Prelude.{ℕ, List, map}
use Rattle.std.specs.List.{Contains}
use Rattle.pci_spec.specs.Slot.{Slot}
use Rattle.pci_spec.specs.System.{System, Space, Function, Leads}
use Rattle.pci_spec.specs.Fault.{RegionName, address_in}
use Rattle.pci_tree.specs.Outline.{Tree}
use Rattle.pci_tree.specs.Trees.{HasTree}
use Rattle.pci_why.specs.Lines.{Appends}
use Rattle.judge_spec.specs.Given.{Given}
use Rattle.judge_spec.specs.ToldClaims.{Told}
use Rattle.judge_spec.specs.ToldFault.{IsOutside}
use Rattle.judge_spec.specs.ToldNumbered.{AreListedIn}
use Rattle.judge_spec.specs.Why.{AnyRegion, IsNamed, IsBehindOutside}

-- bridges lead from the root to the bus of the slot, in each system with the tree
abbrev pub IsRootAbove : Tree → Slot → ℕ → Type 0
IsRootAbove t slot root =
    (s : System) → HasTree t s → Contains t.roots root × (bridges : List Function)
    × Leads s root bridges slot.bus

-- no function has the slot
abbrev pub IsNowhere : Tree → Slot → Type 0
IsNowhere t slot = Contains (map (λ r. r.slot) t.records) slot → ⊥

-- what stands behind the region that a slot and a register name
abbrev pub IsBehindOneRoot :
    Told → Given → List ℕ → System → RegionName → Space → List ℕ → Type 0
IsBehindOneRoot told given roots s region space lines =
    (q : AnyRegion) × IsNamed q region.slot region.register space
    × IsBehindOutside told given roots s q lines

-- in each system with the tree where it is outside, and that lists each slot of a range that isn't held
abbrev pub IsOutsideTold : Told → Given → Tree → RegionName → Space → List ℕ → List ℕ → Type 0
IsOutsideTold told given t region space old new =
    (s : System) (a : ℕ) → HasTree t s → AreListedIn told s
    → IsOutside told given t.roots s region (address_in space a)
    → Appends (IsBehindOneRoot told given t.roots s region space) old new
