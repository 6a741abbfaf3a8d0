-- The faults 63 of regions that have to be sent.
use Rattle.std.specs.Prelude.{◌≡◌, ℕ, List}
use Rattle.pci_spec.specs.System.{System, Space}
use Rattle.pci_spec.specs.Fault.{address_in, named_region}
use Rattle.pci_base.specs.Space.{space_of}
use Rattle.pci_tree.specs.Outline.{Tree}
use Rattle.pci_tree.specs.Trees.{HasTree}
use Rattle.judge_spec.specs.Given.{Given}
use Rattle.judge_spec.specs.ToldClaims.{Told}
use Rattle.judge_spec.specs.ToldFault.{IsOutside}
use Rattle.judge_spec.specs.ToldAllFaults.{IsOutsideOf, region_number}
use Rattle.judge_spec.specs.ToldNumbered.{AreListedIn}
use Rattle.pci_claims.specs.Made.{AreOneEach}
use Rattle.pci_faults.specs.declared.named.Outside.{Outside}
use Rattle.pci_faults.specs.declared.needed.Needed.{Needed}
use Rattle.pci_faults.specs.Needed.{IsNeeded, IsOneOf, needed_place}

-- in each system with the tree that has the region, whatever else is told, it has no fault 63
abbrev pub IsNeverOutside : Given → Tree → Needed → Type 0
IsNeverOutside given t n =
    (told : Told) (s : System) → HasTree t s → AreListedIn told s → IsOneOf (IsNeeded told) s n
    → (space : Space) (a : ℕ)
    → IsOutside told given t.roots s (named_region n.name.slot n.name.register) (address_in space a)
    → ⊥

-- in each such system a list of all faults names the region with this address
abbrev pub IsOutsideLine : Given → Tree → Needed → ℕ → Type 0
IsOutsideLine given t n a =
    (told : Told) (s : System) → HasTree t s → AreListedIn told s → IsOneOf (IsNeeded told) s n
    → IsOutsideOf told given t.roots s (named_region n.name.slot n.name.register)
    (address_in (space_of n.space) a)

-- the fault of a region with this address
abbrev pub outside_at : Needed → ℕ → Outside
outside_at n address = record { region = n.name; space = n.space; address = address }

-- a list of all faults names it
abbrev pub IsOutsideOfOne : Given → Tree → Needed → Outside → Type 0
IsOutsideOfOne given t n o =
    (address : ℕ) × IsOutsideLine given t n address × (outside_at n address ≡ o)

-- of each of these that has a fault 63 that fault, in their order
abbrev pub AreOutsideLines : Given → Tree → List Needed → List Outside → Type 0
AreOutsideLines given t list lines =
    AreOneEach (IsOutsideOfOne given t) (λ n. IsNeverOutside given t n → ⊥) needed_place
    (λ o. region_number o.region.slot o.region.register) list lines
