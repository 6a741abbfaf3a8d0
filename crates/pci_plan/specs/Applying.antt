-- What stands behind a port after a plan was put onto it, or part of it.
use Rattle.std.specs.Prelude.{◌≡◌, ℕ, ◌+◌, ◌-◌, ◌<◌, ◌≤◌, ◌⊎◌, IsFalse, List, length, map, take, Some, Result, Ok, Err, OnOk, IfErr, IsOk, slice_get}
use Rattle.std.specs.List.{AllZip, Contains}
use Rattle.pci_spec.specs.Slot.{Slot}
use Rattle.pci_spec.specs.System.{System, Function}
use Rattle.pci_spec.specs.Sound.{IsSound}
use Rattle.pci_spec.specs.Machine.{Target, Write, target_of, after_writes, system_after}
use Rattle.pci_spec.specs.Port.{has_function}
use Rattle.pci_place.specs.Above.{system_in}
use Rattle.pci_plan.specs.Plans.{PlanValue, final_of}
use Rattle.pci_plan.specs.Comparing.{ShowsAll, IsChangedAt, Moment}
use Rattle.pci_plan.specs.Making.{AreReadBack, AreReadBackOrFailed, IsShownOtherwise}
use Rattle.pci_plan.specs.declared.apply_fault.ApplyFault.{ApplyFault}
use Rattle.pci_plan.specs.declared.apply_fault.ApplyFault.TheVariants.{Changed, Port, Stuck}

-- each function of a system shows its Command and its address registers
abbrev pub ShowsSystem : List Target → System → Type 0
ShowsSystem targets s = (f : Function) → Contains s f → ShowsAll targets f.slot f.image

-- the functions are a sound system's, with the bits that header and probe give them
abbrev pub AreSoundTargets : List ℕ → List Target → Type 0
AreSoundTargets roots targets = (now : System) × IsSound roots now × (targets ≡ map target_of now)

-- how many writes were made
abbrev pub writes_before : ApplyFault → ℕ
writes_before (Changed slot offset) = 0
writes_before (Port done) = done
writes_before (Stuck done) = done

abbrev pub writes_applied : {T : Type 0} → List Write → Result T ApplyFault → ℕ
writes_applied writes (Ok x) = length writes
writes_applied writes (Err fault) = writes_before fault

-- which writes read back as they were written, each before the next one was made: those before the one that sticks, and
-- those before an access that failed, where it wasn't one of comparing
abbrev pub AreReadBackUntil : Moment → List Write → ℕ → ApplyFault → Type 0
AreReadBackUntil before writes failures_after (Changed slot offset) = Unit {0}
AreReadBackUntil before writes failures_after (Port done) =
    (done ≡ 0) ⊎ AreReadBackOrFailed before writes failures_after done
AreReadBackUntil before writes failures_after (Stuck done) =
    AreReadBack before.targets writes (done - 1)

-- or all of them, where none stopped the others
abbrev pub ReadBackBy : {T : Type 0} → Moment → List Write → ℕ → Result T ApplyFault → Type 0
ReadBackBy before writes failures_after (Ok x) =
    AreReadBack before.targets writes (length writes)
ReadBackBy before writes failures_after (Err fault) =
    AreReadBackUntil before writes failures_after fault

-- ---- functions of which other bits can be written

-- a function behind a port has the slot and the image of one of a system
abbrev pub HasImage : Target → Function → Type 0
HasImage t f = (t.slot ≡ f.slot) × (t.image ≡ f.image)

abbrev pub HasImages : List Target → System → Type 0
HasImages targets s = AllZip HasImage targets s

-- the functions have the images that the start has after the first writes, and these are a sound system's
pub record AreSoundAfter (roots : List ℕ) (start : System) (writes : List Write) (count : ℕ)
    (targets : List Target) : Type 0 where
  pub images : HasImages targets (system_after start (take count writes))
  pub sound : IsSound roots (system_after start (take count writes))

-- they do as long as writes read back, from a sound start or once a stop is safe
abbrev pub AreSoundWhileReadBack : List ℕ → System → List Write → ℕ → List Target → Type 0
AreSoundWhileReadBack roots start writes safe_from before =
    (k : ℕ) → AreReadBack before writes k → IsSound roots start ⊎ (safe_from ≤ k)
    → AreSoundAfter roots start writes k (after_writes before (take k writes))

-- ---- why not all were

-- the register of a function of the start shows another number
pub record IsChangedFrom (before : List Target) (start : System) (slot : Slot)
    (offset : ℕ) : Type 0 where
  pub f : Function
  pub listed : Contains start f
  pub at : f.slot ≡ slot
  pub changed : IsChangedAt before f.slot f.image offset

-- a function of the start isn't there
abbrev pub LacksFunction : List Target → System → Type 0
LacksFunction before start =
    (f : Function) × Contains start f × IsFalse (has_function before f.slot)

-- an access failed or a function isn't there, while functions were compared or after some writes
pub record IsCutShort (before : Moment) (start : System) (writes : List Write)
    (failures_after done : ℕ) : Type 0 where
  pub within : done ≤ length writes
  pub started : 0 < done → ShowsSystem before.targets start
  pub cause : (before.failures < failures_after) ⊎ LacksFunction before.targets start

-- the last write that was made reads back otherwise
pub record IsReadOtherwise (before : List Target) (start : System) (writes : List Write)
    (after : List Target) (done : ℕ) : Type 0 where
  pub started : ShowsSystem before start
  pub last : ℕ
  pub is_last : done ≡ last + 1
  pub write : Write
  pub listed : slice_get writes last ≡ Some write
  pub otherwise : IsShownOtherwise after write

abbrev pub IsApplyFault : Moment → System → List Write → Moment → ApplyFault → Type 0
IsApplyFault before start writes after (Changed slot offset) =
    IsChangedFrom before.targets start slot offset
IsApplyFault before start writes after (Port done) =
    IsCutShort before start writes after.failures done
IsApplyFault before start writes after (Stuck done) =
    IsReadOtherwise before.targets start writes after.targets done

-- ---- all that applying a move leaves, by its answer

pub record IsApplied {T : Type 0} (p : PlanValue) (before after : Moment)
    (r : Result T ApplyFault) : Type 0 where
  -- on any machine, also one that writes other bits than the probe tells: the fault's count is exact
  pub made : after.targets ≡ after_writes before.targets (take (writes_applied p.writes r) p.writes)
  -- no promise is asked of a machine beforehand: an Ok says that it was the right one
  pub started : OnOk r (ShowsSystem before.targets (system_in p.start))
  pub ended : OnOk r (ShowsSystem after.targets (final_of p))
  -- so nothing is moved beside a function that stays on, though its Command is written again later
  pub read_back : ReadBackBy before p.writes after.failures r
  pub counted : OnOk r (after.failures ≡ before.failures)
  pub fault : IfErr r (IsApplyFault before (system_in p.start) p.writes after)
  -- where the machine is as it was read, only its port can stop the writes
  pub own_machine : before.targets ≡ map target_of (system_in p.start)
      → after.failures ≡ before.failures → IsOk r
  -- what a write leaves hangs on the bits that can be written, so these have to be the probe's
  pub sound : before.targets ≡ map target_of (system_in p.start)
      → IsSound p.start.roots (system_in p.start) ⊎ (p.safe_from ≤ writes_applied p.writes r)
      → AreSoundTargets p.start.roots after.targets
  -- but for writes that read back it makes no difference which bits can be written
  pub sound_images : HasImages before.targets (system_in p.start)
      → AreSoundWhileReadBack p.start.roots (system_in p.start) p.writes p.safe_from before.targets
