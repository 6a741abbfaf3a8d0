-- What everything can be placed in has its tables, so the system with the planned numbers is final.
use Rattle.std.proofs.Common.{ℕ, List}
use Rattle.std.specs.List.{AllZip}
use Rattle.std.specs.List.Sorted.{IsStrictlyIncreasing}
use Rattle.pci_spec.specs.Window.{WindowKind}
use Rattle.pci_spec.specs.System.{System}
use Rattle.plan_spec.specs.Plan.{Pools}
use Rattle.plan_spec.specs.Planning.Numbers.{place_at, IsPlannedFunction}
use Rattle.plan_spec.specs.Planning.Plannable.{IsPlannable}
use Rattle.plan_spec.specs.Planning.Promise.{IsFinal}
use Rattle.plan_spec.specs.Planning.Table.{IsTable}
use Rattle.plan_spec.proofs.Planning.Reach.{good_pools, pool_below}
use Rattle.plan_spec.proofs.Planning.Placings.{table_of_places}
use Rattle.plan_spec.proofs.Planning.Final.{planned_is_final}

module _ (roots : List ℕ) (s : System) (pools : Pools) (p : IsPlannable roots s pools) (rising : IsStrictlyIncreasing roots) where
  pub tables_of_plannable : (c : WindowKind) → IsTable roots s pools c (place_at roots s pools)
  tables_of_plannable c = table_of_places roots s pools c p.system p.nested rising (p.can.room c) (pool_below pools (good_pools pools p.can.good) p.addresses c)

  -- the system with the planned numbers
  pub final_by_numbers : (t : System) → AllZip (IsPlannedFunction roots s pools) s t → IsFinal roots s t pools
  final_by_numbers t planned = planned_is_final roots s t pools p tables_of_plannable planned
