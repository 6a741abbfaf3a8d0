-- Laws of where what stands lies: in a range that the root above it has.
use Rattle.std.specs.Prelude.{◌≡◌, ◌⊎◌, ℕ, IsTrue, List, []}
use Rattle.std.specs.List.{Contains}
use Rattle.pci_spec.specs.System.{System, Function, IsSystem}
use Rattle.pci_spec.specs.Bus.{is_root, IsNested}
use Rattle.plan_spec.specs.Plan.{bridges_above}
use Rattle.settle_spec.specs.Lists.{Request}
use Rattle.settle_spec.specs.Parts.{FunctionPart, system_parts, addresses}
use Rattle.settle_spec.specs.Stands.{part_space, is_in_lists, stands}
use Rattle.settle_spec.specs.Keeping.Registers.{settled}
use Rattle.settle_laws.specs.Keeping.PlacesLaws.{CanSettle}
use Rattle.settle_spec.specs.Kept.{Kept}

-- The root above a bus: the bus itself, or the one on which a bridge above it is.
pub record IsRootOverBus (roots : List ℕ) (s : System) (bus root : ℕ) : Type 0 where
  pub is : IsTrue (is_root roots root)
  pub above : (root ≡ bus)
      ⊎ ((b : Function) × Contains (bridges_above s bus) b × (b.slot.bus ≡ root))

-- The root above a part has a range that holds it whole, in a list of the part's space.
pub record HasListedRange (q : Request) (s : System) (r : FunctionPart) : Type 0 where
  pub root : ℕ
  pub over : IsRootOverBus q.roots s r.function.slot.bus root
  pub holds : IsTrue (is_in_lists q root (addresses r) (part_space r))

-- So it is for each part that stands,
abbrev pub StandingIsListed : Type 0
StandingIsListed =
    (q : Request) (s : System) (r : FunctionPart) → IsSystem s → IsNested q.roots s
    → Contains (system_parts q s) r → IsTrue (stands q s r) → HasListedRange q s r

-- and for each part of what settling comes to, behind bridges too.
abbrev pub SettledIsListed : Type 0
SettledIsListed =
    (q : Request) → q.told.ranges ≡ [] → (s : System) (k : Kept) (r : FunctionPart) → CanSettle q s k
    → Contains (system_parts q (settled q s k)) r → HasListedRange q (settled q s k) r
