-- Laws of settling a planned system in lists that have the plan's pools: everything stands already, and nothing is written.
use Rattle.std.specs.Prelude.{◌≡◌, ℕ, false, IsTrue, IsFalse, List, []}
use Rattle.std.specs.List.{Contains}
use Rattle.std.specs.List.Sorted.{IsStrictlyIncreasing}
use Rattle.pci_spec.specs.Slot.{Slot}
use Rattle.pci_spec.specs.Window.{WindowKind}
use Rattle.pci_spec.specs.System.{System, Function, IsSystem}
use Rattle.pci_spec.specs.Machine.{Write}
use Rattle.pci_spec.specs.Sound.{IsSound}
use Rattle.plan_spec.specs.Plan.{Pools, pool_of, are_bad}
use Rattle.plan_spec.specs.PlanPromise.{IsPlanOf}
use Rattle.plan_spec.specs.Planning.Layout.{IsLaidOut}
use Rattle.plan_spec.specs.Planning.Plannable.{IsPlannable}
use Rattle.settle_spec.specs.Lists.{Request, are_bad_lists}
use Rattle.settle_spec.specs.Parts.{FunctionPart, system_parts, has_left}
use Rattle.settle_spec.specs.Stands.{is_listed, stands}
use Rattle.settle_spec.specs.Writes.{Settled}
use Rattle.settle_spec.specs.Kept.{as_it_stands}
use Rattle.settle_spec.specs.Keeping.Writes.{settle_keeping}
use Rattle.settle_spec.specs.Growing.{settle_growing}
use Rattle.settle_laws.specs.PlanLaws.{anew_in}

-- It is not asked that all be placed anew, and on each root each pool lies in a range of its class.
pub record HasPools (q : Request) (pools : Pools) : Type 0 where
  pub kept : IsFalse q.anew
  pub listed : (root : ℕ) (c : WindowKind) → Contains q.roots root
      → IsTrue (is_listed q root (pool_of pools c) c)

-- ---- everything has its place in pools

-- In a sound system in which everything has its place in pools, each part stands where lists have these pools,
abbrev pub LaidOutStands : Type 0
LaidOutStands =
    (q : Request) → q.told.ranges ≡ [] → (t : System) (pools : Pools) → IsSystem t → IsSound q.roots t
    → IsLaidOut q.roots t pools → IsFalse (are_bad pools) → HasPools q pools → (r : FunctionPart)
    → Contains (system_parts q t) r → IsTrue (stands q t r)

-- no I/O BAR is left,
abbrev pub LaidOutLeavesNothing : Type 0
LaidOutLeavesNothing =
    (q : Request) (t : System) (pools : Pools) → IsSystem t → IsSound q.roots t
    → IsLaidOut q.roots t pools → HasPools q pools → (f : Function) → Contains t f
    → IsFalse (has_left q t f)

-- and so settling writes nothing, whatever may not be written.
abbrev pub LaidOutIsSettled : Type 0
LaidOutIsSettled =
    (q : Request) → q.told.ranges ≡ [] → (t : System) (pools : Pools) → IsSystem t → IsSound q.roots t
    → IsLaidOut q.roots t pools → IsFalse (are_bad pools) → HasPools q pools
    → IsFalse (are_bad_lists q.roots q.lists)
    → (settle_keeping q t (as_it_stands q t) ≡ Settled []) × (settle_growing q t ≡ Settled [])

-- ---- plans

-- In what a plan comes to everything has its place,
abbrev pub PlannedIsLaidOut : Type 0
PlannedIsLaidOut =
    (roots : List ℕ) (s t : System) (pools : Pools) (ws : List Write) (n : ℕ)
    → IsPlannable roots s pools → IsStrictlyIncreasing roots → IsPlanOf roots s t pools ws n
    → IsLaidOut roots t pools

-- so settling it writes nothing,
abbrev pub PlannedIsSettled : Type 0
PlannedIsSettled =
    (q : Request) → q.told.ranges ≡ [] → (s t : System) (pools : Pools) (ws : List Write) (n : ℕ)
    → IsPlannable q.roots s pools → IsStrictlyIncreasing q.roots → IsPlanOf q.roots s t pools ws n
    → HasPools q pools → IsFalse (are_bad_lists q.roots q.lists)
    → (settle_keeping q t (as_it_stands q t) ≡ Settled []) × (settle_growing q t ≡ Settled [])

-- as in lists that have just the pools, whatever is fixed.
abbrev pub just_in : List ℕ → Pools → List Slot → Request
just_in roots pools fixed = record (anew_in roots pools) { fixed = fixed; anew = false }

abbrev pub PlannedIsSettledInItsPools : Type 0
PlannedIsSettledInItsPools =
    (roots : List ℕ) (s t : System) (pools : Pools) (ws : List Write) (n : ℕ) (fixed : List Slot)
    → IsPlannable roots s pools → IsStrictlyIncreasing roots → IsPlanOf roots s t pools ws n
    → (settle_keeping (just_in roots pools fixed) t (as_it_stands (just_in roots pools fixed) t) ≡ Settled [])
    × (settle_growing (just_in roots pools fixed) t ≡ Settled [])
