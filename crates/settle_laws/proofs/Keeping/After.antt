-- What is asked of the settled functions for the laws of their writes.
use Rattle.std.proofs.Common.{◌≡◌, ℕ}
use Rattle.std.specs.List.{Contains}
use Rattle.pci_spec.specs.Number.{byte_at}
use Rattle.pci_spec.specs.Header.{command}
use Rattle.pci_spec.specs.System.{System, Function, IsSystem}
use Rattle.plan_spec.specs.Plan.{IsMoved}
use Rattle.settle_spec.specs.Lists.{Request}
use Rattle.settle_spec.specs.Keeping.Registers.{settled_function, settled_command}
use Rattle.settle_spec.specs.Kept.{Kept}
use Rattle.settle_laws.proofs.After.{IsAsideOf}

-- what settling makes of each function of a system
pub record AreSettling (q : Request) (s : System) (k : Kept) : Type 0 where
  pub system : IsSystem s
  pub moved : (f : Function) → Contains s f → IsMoved f (settled_function q s k f)
  pub aside : (f : Function) (place : ℕ) → Contains s f → IsAsideOf f place → byte_at (settled_function q s k f).image place ≡ byte_at f.image place
  pub command_is : (f : Function) → Contains s f → command (settled_function q s k f).image ≡ settled_command q s k f
