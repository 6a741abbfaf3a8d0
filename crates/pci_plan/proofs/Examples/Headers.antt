-- Headers with everything at its place, of functions that are so by themselves.
use Rattle.std.proofs.Common.{ℕ, List, [], ◌∷◌, take, refl}
use Rattle.pci_spec.specs.System.{System, Function}
use Rattle.plan_spec.specs.Plan.{Pools}
use Rattle.plan_spec.specs.Planning.Numbers.{IsPlannedFunction}
use Rattle.pci_tree.specs.Admission.{Admission}
use Rattle.pci_plan.specs.Numbered.{IsNewHeader, AreNewHeaders}

abbrev empty : List ℕ → Admission
empty roots = record { roots = roots; dump = []; probe = [] }

-- where there is no function there is no header
none_of_none : (roots : List ℕ) (pools : Pools) → AreNewHeaders (empty roots) pools []
none_of_none roots pools = tt

no_header_of_none : (roots : List ℕ) (pools : Pools) (header : List ℕ) → AreNewHeaders (empty roots) pools (header ∷ []) → ⊥
no_header_of_none roots pools header one = one

-- a function that has everything at its place keeps its header
own_header : (roots : List ℕ) (s : System) (pools : Pools) (f : Function) → IsPlannedFunction roots s pools f f → IsNewHeader roots s pools f (take 64 f.image)
own_header roots s pools f planned = record { image = f.image; planned = planned; first = refl }
