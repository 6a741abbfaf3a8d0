-- Laws of settling where windows grow: what it comes to is sound, and its writes can stop.
use Rattle.std.specs.Prelude.{◌≡◌, ℕ, ◌^◌, ◌<◌, ◌≤◌, ◌⊎◌, IsTrue, List, [], length, take}
use Rattle.std.specs.List.{Contains, count_by}
use Rattle.pci_spec.specs.Slot.{same_slot}
use Rattle.pci_spec.specs.System.{System, Function, IsSystem}
use Rattle.pci_spec.specs.Bus.{IsNested}
use Rattle.pci_spec.specs.Machine.{Write, system_after}
use Rattle.pci_spec.specs.Sound.{IsInProfile, HasChains, IsSound}
use Rattle.settle_spec.specs.Lists.{RootRange, Request}
use Rattle.settle_spec.specs.Writes.{Settling, Settled}
use Rattle.settle_spec.specs.Kept.{as_it_stands, growing}
use Rattle.settle_spec.specs.Keeping.Writes.{closings, settle_keeping}
use Rattle.settle_spec.specs.Growing.{settle_growing}
use Rattle.settle_laws.specs.WriteLaws.{most_settle_writes}

-- Nothing is told beside BARs and ROMs, a system is admitted, and lists of prefetchable memory end below 2^64.
pub record CanBeAsked (q : Request) (s : System) : Type 0 where
  pub untold : q.told.ranges ≡ []
  pub high : (r : RootRange) → Contains q.lists.prefetch r → r.range.last < 2 ^ 64
  pub system : IsSystem s
  pub nested : IsNested q.roots s
  pub profile : IsInProfile q.roots s
  pub chains : HasChains s

-- What settling comes to is sound.
abbrev pub SettledGrowingIsSound : Type 0
SettledGrowingIsSound =
    (q : Request) (s : System) (writes : List Write) → CanBeAsked q s
    → settle_growing q s ≡ Settled writes → IsSound q.roots (system_after s writes)

-- the closing writes of settling with windows that grow, where it settles, else of settling beside what stays as it stands
abbrev pub closings_by : Settling → List Write → List Write → List Write
closings_by (Settled writes) own other = own
closings_by refused own other = other

abbrev pub growing_closings : Request → System → List Write
growing_closings q s =
    closings_by (settle_keeping q s (growing q s)) (closings q s (growing q s) s)
    (closings q s (as_it_stands q s) s)

-- The writes can stop anywhere once the closing ones are made, and from a sound start anywhere at all.
abbrev pub SettlingGrowingCanStop : Type 0
SettlingGrowingCanStop =
    (q : Request) (s : System) (writes : List Write) (n : ℕ) → CanBeAsked q s
    → settle_growing q s ≡ Settled writes
    → (length (growing_closings q s) ≤ n) ⊎ IsSound q.roots s
    → IsSound q.roots (system_after s (take n writes))

-- To a device at most 9 writes are made, and to a bridge 16.
abbrev pub FewGrowingWritesEach : Type 0
FewGrowingWritesEach =
    (q : Request) (s : System) (writes : List Write) → CanBeAsked q s
    → settle_growing q s ≡ Settled writes → (f : Function) → Contains s f
    → count_by (λ w. same_slot w.slot f.slot) writes ≤ most_settle_writes f

-- Where all is placed anew no window grows.
abbrev pub AnewNothingGrows : Type 0
AnewNothingGrows =
    (q : Request) → q.told.ranges ≡ [] → (s : System) → IsTrue q.anew → settle_growing q s ≡ settle_keeping q s (as_it_stands q s)

-- Settled again nothing is written.
abbrev pub SettlingGrowingAgainWritesNothing : Type 0
SettlingGrowingAgainWritesNothing =
    (q : Request) (s : System) (writes : List Write) → CanBeAsked q s
    → settle_growing q s ≡ Settled writes → settle_growing q (system_after s writes) ≡ Settled []
