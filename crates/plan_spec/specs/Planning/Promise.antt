-- What a system with everything placed is.
use Rattle.std.specs.Prelude.{ℕ, List}
use Rattle.pci_spec.specs.System.{System}
use Rattle.pci_spec.specs.Sound.{IsSound}
use Rattle.plan_spec.specs.Plan.{Pools, IsPlanned}
use Rattle.plan_spec.specs.Place.{IsPlaced}
use Rattle.plan_spec.specs.Planning.Layout.{IsLaidOut}

-- planned, sound, and everything at its place
pub record IsFinal (roots : List ℕ) (start final : System) (pools : Pools) : Type 0 where
  pub planned : IsPlanned start final pools
  pub sound : IsSound roots final
  pub laid_out : IsLaidOut roots final pools
  pub placed : IsPlaced roots final pools
