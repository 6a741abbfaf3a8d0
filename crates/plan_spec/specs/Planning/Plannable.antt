-- What everything can be placed in.
use Rattle.std.specs.Prelude.{ℕ, ◌^◌, ◌<◌, List}
use Rattle.std.specs.List.{All}
use Rattle.pci_spec.specs.System.{System, IsSystem}
use Rattle.pci_spec.specs.Bus.{IsNested}
use Rattle.pci_spec.specs.Sound.{IsInProfile, HasChains}
use Rattle.pci_spec.specs.Decoded.{IsDecodable}
use Rattle.plan_spec.specs.Plan.{Pools}
use Rattle.plan_spec.specs.PlanPromise.{CanBePlanned}

-- A lawful system against whose plan nothing stands, with pools of 64-bit addresses.
pub record IsPlannable (roots : List ℕ) (s : System) (pools : Pools) : Type 0 where
  pub system : IsSystem s
  pub nested : IsNested roots s
  pub profile : IsInProfile roots s
  pub chains : HasChains s
  pub decodable : All IsDecodable s
  pub addresses : pools.prefetch.last < 2 ^ 64
  pub can : CanBePlanned roots s pools
