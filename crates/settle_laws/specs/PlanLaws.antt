-- Laws of settling beside planning: where planning has room for everything, placing all anew in its pools has it too.
use Rattle.std.specs.Prelude.{◌≡◌, ℕ, ◌%◌, ◌^◌, ◌<◌, ◌≤◌, true, IsTrue, List, [], ◌∷◌, None}
use Rattle.std.specs.List.{Contains}
use Rattle.std.specs.List.Sorted.{IsStrictlyIncreasing}
use Rattle.pci_spec.specs.Window.{WindowKind}
use Rattle.pci_spec.specs.Decoded.{Range}
use Rattle.pci_spec.specs.System.{System, Function, IsSystem, is_bridge}
use Rattle.pci_spec.specs.Bus.{secondary, IsNested}
use Rattle.pci_spec.specs.Sound.{IsInProfile, HasChains}
use Rattle.plan_spec.specs.Plan.{Pools, pool_of, need_of, window_size, fits}
use Rattle.plan_spec.specs.PlanPromise.{CanBePlanned}
use Rattle.settle_spec.specs.FirstPlace.{Extent}
use Rattle.settle_spec.specs.Lists.{RootRange, Request, no_spares}
use Rattle.settle_spec.specs.Items.{new_window}
use Rattle.settle_spec.specs.Keeping.Places.{lacking}
use Rattle.settle_laws.specs.Keeping.PlacesLaws.{CanSettle}
use Rattle.settle_spec.specs.Kept.{as_it_stands}
use Rattle.judge_spec.specs.ToldClaims.{nothing_told}

-- a pool that all roots have, as the one range of a list
abbrev pub pool_list : Range → List RootRange
pool_list pool = record { root = None; range = pool } ∷ []

-- all is placed anew below some roots, in the pools of planning, and no bridge has a slot
abbrev pub anew_in : List ℕ → Pools → Request
anew_in roots pools = record {
  roots = roots;
  lists = record {
    io = pool_list pools.io;
    memory = pool_list pools.memory;
    prefetch = pool_list pools.prefetch;
  };
  fixed = [];
  anew = true;
  slots = [];
  spares = no_spares;
  told = nothing_told [];
}

-- an extent has no more than so many addresses, and its alignment divides that
pub record IsNoLarger (e : Extent) (most : ℕ) : Type 0 where
  pub size : e.size ≤ most
  pub alignment : most % e.alignment ≡ 0

-- Where a class fits its pool, a new window of it is no larger than planning's, and as aligned or less.
abbrev pub WindowsAreNoLarger : Type 0
WindowsAreNoLarger =
    (roots : List ℕ) (s : System) (pools : Pools) (c : WindowKind) (b : Function) → IsSystem s
    → IsNested roots s → (pool_of pools c).last < 2 ^ 64 → IsTrue (fits roots s pools c)
    → Contains s b → IsTrue (is_bridge b)
    → IsNoLarger (new_window (anew_in roots pools) s c b)
    (window_size c (need_of s pools c (secondary b)))

-- Where everything can be planned in pools of 64-bit addresses, nothing lacks room when all is placed anew in them.
abbrev pub SettlesWherePlanned : Type 0
SettlesWherePlanned =
    (roots : List ℕ) (s : System) (pools : Pools) → IsSystem s → IsNested roots s
    → IsStrictlyIncreasing roots → pools.prefetch.last < 2 ^ 64 → CanBePlanned roots s pools
    → lacking (anew_in roots pools) s (as_it_stands (anew_in roots pools) s) ≡ None

-- So there it can all be settled: nothing lacks room on any bus, and the settled system is sound.
abbrev pub CanSettleWherePlanned : Type 0
CanSettleWherePlanned =
    (roots : List ℕ) (s : System) (pools : Pools) → IsSystem s → IsNested roots s
    → IsInProfile roots s → HasChains s → IsStrictlyIncreasing roots → pools.prefetch.last < 2 ^ 64
    → CanBePlanned roots s pools → CanSettle (anew_in roots pools) s (as_it_stands (anew_in roots pools) s)
