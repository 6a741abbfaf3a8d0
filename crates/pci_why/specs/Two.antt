-- What stands behind two regions that claim an address.
use Rattle.std.specs.Prelude.{ℕ, List}
use Rattle.pci_spec.specs.System.{System, Space}
use Rattle.pci_spec.specs.Fault.{TwoRegions, address_in}
use Rattle.pci_tree.specs.Outline.{Tree}
use Rattle.pci_tree.specs.Trees.{HasTree}
use Rattle.pci_why.specs.Lines.{Appends}
use Rattle.judge_spec.specs.Given.{Given}
use Rattle.judge_spec.specs.ToldClaims.{Told, ClaimsOnBus}
use Rattle.judge_spec.specs.Why.{AreNamedTwo}

-- in each system with the tree where both claim some address
abbrev pub AreTwoTold : Told → Given → Tree → Space → TwoRegions → List ℕ → List ℕ → Type 0
AreTwoTold told given t space two old new =
    (s : System) (a bus other : ℕ) → HasTree t s
    → ClaimsOnBus told given s bus (address_in space a) two.first
    → ClaimsOnBus told given s other (address_in space a) two.second
    → Appends (AreNamedTwo told given s space two) old new
