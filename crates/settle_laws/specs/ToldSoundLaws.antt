-- Laws of settling with told ranges: what it comes to is sound as told, and so is each stop.
use Rattle.std.specs.Prelude.{◌≡◌, ◌⊎◌, ◌^◌, ◌<◌, ◌≤◌, ℕ, IsTrue, IsFalse, [], List, length, take}
use Rattle.std.specs.List.{AllZip, Contains, count_by, list_any}
use Rattle.pci_spec.specs.Decoded.{InRange}
use Rattle.pci_spec.specs.Slot.{Slot, same_slot}
use Rattle.pci_spec.specs.System.{System, Function, IsSystem, IsPassedTo}
use Rattle.pci_spec.specs.Bus.{IsNested}
use Rattle.pci_spec.specs.Machine.{Write, system_after}
use Rattle.pci_spec.specs.Sound.{IsInProfile, HasChains}
use Rattle.plan_spec.specs.Plan.{IsMoved, bridges_above}
use Rattle.judge_spec.specs.Given.{nothing_given}
use Rattle.judge_spec.specs.Told.{IsTold}
use Rattle.judge_spec.specs.ToldClaims.{is_enabled_at}
use Rattle.judge_spec.specs.ToldFault.{IsNotListed, IsHeldOrphan}
use Rattle.judge_spec.specs.ToldRegion.{ToldRegion, told_regions}
use Rattle.judge_spec.specs.ToldSound.{IsSound}
use Rattle.settle_spec.specs.Lists.{RootRange, Request}
use Rattle.settle_spec.specs.Lines.{line_bus, line_range, is_held_line, is_command_line, is_always_line}
use Rattle.settle_spec.specs.Stands.{is_line_on, range_stands}
use Rattle.settle_spec.specs.Items.{range_stays}
use Rattle.settle_spec.specs.Writes.{Settled}
use Rattle.settle_spec.specs.Kept.{Kept, as_it_stands}
use Rattle.settle_spec.specs.Keeping.Registers.{settled}
use Rattle.settle_spec.specs.Keeping.Writes.{is_shut, closings, settle_writes, settle_keeping}
use Rattle.settle_spec.specs.Growing.{settle_growing}
use Rattle.settle_spec.specs.Sparing.{settle_sparing}
use Rattle.settle_laws.specs.KeptLaws.{IsSoundKept}
use Rattle.settle_laws.specs.WriteLaws.{most_settle_writes}
use Rattle.settle_laws.specs.GrowingLaws.{growing_closings}
use Rattle.settle_laws.specs.SparingLaws.{sparing_closings}
use Rattle.settle_laws.specs.Keeping.PlacesLaws.{CanSettle}

-- it is sound as told
abbrev pub IsSoundAsTold : Request → System → Type 0
IsSoundAsTold q s = IsSound q.told nothing_given q.roots s

-- What is told of a system is lawful, and nobody is asleep. Slots of told ranges are listed, and somebody leads to the bus of
-- each `held` line.
pub record IsToldOf (q : Request) (s : System) : Type 0 where
  pub lawful : IsTold q.told.ranges
  pub awake : q.told.asleep ≡ []
  pub listed : (slot : Slot) → IsNotListed q.told s slot → ⊥
  pub led_to : (slot : Slot) → IsHeldOrphan q.told q.roots s slot → ⊥

-- What is told is kept: a told range that is on stands, and one that stands stays. Command enables none in the result that
-- doesn't stand, and no bridge above one that is marked `always` is shut in its space.
pub record KeepsTold (q : Request) (s : System) (k : Kept) : Type 0 where
  pub reached : (x : ToldRegion) → Contains (told_regions q.told) x → IsFalse (is_held_line x) → IsTrue (is_line_on q s x)
      → IsTrue (range_stands q s x)
  pub stays : (x : ToldRegion) → Contains (told_regions q.told) x → IsTrue (range_stands q s x) → IsTrue (range_stays q s k.stays x)
  pub switched : (x : ToldRegion) → Contains (told_regions q.told) x → IsTrue (is_command_line x)
      → IsTrue (is_enabled_at (settled q s k) x.told.slot x.told.space) → IsTrue (range_stands q s x)
  pub unshut : (x : ToldRegion) (b : Function) → Contains (told_regions q.told) x → IsTrue (is_always_line x)
      → Contains (bridges_above s (line_bus x)) b → IsFalse (is_shut q s k x.told.space b)

-- It can be settled so.
pub record CanSettleTold (q : Request) (s : System) (k : Kept) : Type 0 where
  pub can : CanSettle q s k
  pub told : IsToldOf q s
  pub keeps : KeepsTold q s k

-- Then the result is sound as told,
abbrev pub SettledIsSound : Type 0
SettledIsSound = (q : Request) (s : System) (k : Kept) → CanSettleTold q s k → IsSoundAsTold q (settled q s k)

-- and the writes can stop anywhere once the closing ones are made, and from a start that is sound as told anywhere at all.
abbrev pub SettlingCanStop : Type 0
SettlingCanStop =
    (q : Request) (s : System) (k : Kept) → CanSettleTold q s k → (n : ℕ)
    → (length (closings q s k s) ≤ n) ⊎ IsSoundAsTold q s
    → IsSoundAsTold q (system_after s (take n (settle_writes q s k)))

-- Whatever the start, at each stop a range that is marked `always` is passed from a root to its bus.
abbrev pub AlwaysIsReached : Type 0
AlwaysIsReached =
    (q : Request) (s : System) (k : Kept) → CanSettleTold q s k → (n : ℕ) (x : ToldRegion) (a : ℕ) → Contains (told_regions q.told) x
    → IsTrue (is_always_line x) → InRange (line_range x) a
    → IsPassedTo q.roots (system_after s (take n (settle_writes q s k))) x.told.space x.told.prefetchable a (line_bus x)

-- ---- the whole

-- A system is admitted, and lists of prefetchable memory end below 2^64.
pub record IsAdmittedSystem (q : Request) (s : System) : Type 0 where
  pub high : (r : RootRange) → Contains q.lists.prefetch r → r.range.last < 2 ^ 64
  pub system : IsSystem s
  pub nested : IsNested q.roots s
  pub profile : IsInProfile q.roots s
  pub chains : HasChains s

-- A system is admitted, and so is what is told of it.
pub record CanAskTold (q : Request) (s : System) : Type 0 where
  pub admitted : IsAdmittedSystem q s
  pub told : IsToldOf q s

-- What is settled beside what is kept soundly can be settled so, by just these writes.
abbrev pub SettledCanSettle : Type 0
SettledCanSettle =
    (q : Request) (s : System) (k : Kept) (writes : List Write) → CanAskTold q s → IsSoundKept q s k
    → settle_keeping q s k ≡ Settled writes → CanSettleTold q s k × (settle_writes q s k ≡ writes)

-- So what settling beside what stays as it stands comes to is sound as told,
abbrev pub SettledStandingIsSound : Type 0
SettledStandingIsSound =
    (q : Request) (s : System) (writes : List Write) → CanAskTold q s
    → settle_keeping q s (as_it_stands q s) ≡ Settled writes → IsSoundAsTold q (system_after s writes)

-- and so is what it comes to where windows grow,
abbrev pub ToldGrowingIsSound : Type 0
ToldGrowingIsSound =
    (q : Request) (s : System) (writes : List Write) → CanAskTold q s
    → settle_growing q s ≡ Settled writes → IsSoundAsTold q (system_after s writes)

-- and with room behind slots.
abbrev pub ToldSparingIsSound : Type 0
ToldSparingIsSound =
    (q : Request) (s : System) (writes : List Write) → CanAskTold q s
    → settle_sparing q s ≡ Settled writes → IsSoundAsTold q (system_after s writes)

-- The writes can stop anywhere once the closing ones are made, and from a start that is sound as told anywhere at all.
abbrev pub SettlingStandingCanStop : Type 0
SettlingStandingCanStop =
    (q : Request) (s : System) (writes : List Write) (n : ℕ) → CanAskTold q s
    → settle_keeping q s (as_it_stands q s) ≡ Settled writes
    → (length (closings q s (as_it_stands q s) s) ≤ n) ⊎ IsSoundAsTold q s
    → IsSoundAsTold q (system_after s (take n writes))

abbrev pub ToldGrowingCanStop : Type 0
ToldGrowingCanStop =
    (q : Request) (s : System) (writes : List Write) (n : ℕ) → CanAskTold q s
    → settle_growing q s ≡ Settled writes
    → (length (growing_closings q s) ≤ n) ⊎ IsSoundAsTold q s
    → IsSoundAsTold q (system_after s (take n writes))

abbrev pub ToldSparingCanStop : Type 0
ToldSparingCanStop =
    (q : Request) (s : System) (writes : List Write) (n : ℕ) → CanAskTold q s
    → settle_sparing q s ≡ Settled writes
    → (length (sparing_closings q s) ≤ n) ⊎ IsSoundAsTold q s
    → IsSoundAsTold q (system_after s (take n writes))

-- ---- what is written

-- To a device at most 9 writes are made, and to a bridge 16.
abbrev pub FewSparingWritesEach : Type 0
FewSparingWritesEach =
    (q : Request) (s : System) (writes : List Write) → IsSystem s
    → settle_sparing q s ≡ Settled writes → (f : Function) → Contains s f
    → count_by (λ w. same_slot w.slot f.slot) writes ≤ most_settle_writes f

-- No fixed function is written.
abbrev pub FixedIsNotWritten : Type 0
FixedIsNotWritten =
    (q : Request) (s : System) (writes : List Write) (w : Write) → settle_sparing q s ≡ Settled writes
    → Contains writes w → IsFalse (list_any (same_slot w.slot) q.fixed)

-- Only address bits and Command's enables of I/O and memory change.
abbrev pub SettlingMoves : Type 0
SettlingMoves =
    (q : Request) (s : System) (writes : List Write) → IsAdmittedSystem q s
    → settle_sparing q s ≡ Settled writes → AllZip IsMoved s (system_after s writes)
