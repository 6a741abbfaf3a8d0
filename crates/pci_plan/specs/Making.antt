-- What writes over a port leave, where all are made and where they stop.
use Rattle.std.specs.Prelude.{◌≡◌, ◌≢◌, ℕ, suc, ◌+◌, ◌<◌, ◌≤◌, ◌⊎◌, ◌&&◌, IsTrue, IsFalse, Some, Result, Ok, Err, List, length, take, slice_get}
use Rattle.std.specs.List.{Contains}
use Rattle.pci_spec.specs.Machine.{Target, Write, write_targets, after_writes}
use Rattle.pci_spec.specs.Port.{is_access, fits, has_function, ShowsNumber}
use Rattle.pci_plan.specs.Comparing.{Moment, IsRefusedAt}
use Rattle.pci_plan.specs.declared.write.Write.{Write as CodeWrite}
use Rattle.pci_plan.specs.declared.apply_fault.ApplyFault.{ApplyFault}
use Rattle.pci_plan.specs.declared.apply_fault.ApplyFault.TheVariants.{Changed, Port, Stuck}

-- a port takes the access
abbrev pub IsAccessible : CodeWrite → Type 0
IsAccessible w = IsTrue (is_access w.off w.width && fits w.width w.value)

-- ---- one write

-- after so many others it wasn't made, as it was refused
abbrev pub IsWriteRefused : Moment → Write → ℕ → Moment → ℕ → Type 0
IsWriteRefused before w done after n =
    (n ≡ done) × (after.targets ≡ before.targets) × IsRefusedAt before w.slot after.failures

-- or it was made, and reading it back failed
abbrev pub IsUnread : Moment → Write → ℕ → Moment → ℕ → Type 0
IsUnread before w done after n =
    (n ≡ done + 1) × (after.targets ≡ write_targets before.targets w)
    × (before.failures < after.failures)

-- it reads back otherwise
pub record IsShownOtherwise (targets : List Target) (w : Write) : Type 0 where
  pub shows : ℕ
  pub shown : ShowsNumber targets w.slot w.offset w.width shows
  pub differs : shows ≢ w.value

-- why it is the last, after `done` others: an access failed or the function isn't there, or it reads back otherwise
abbrev pub IsLastWrite : Moment → Write → ℕ → Moment → ApplyFault → Type 0
IsLastWrite before w done after (Changed slot offset) = ⊥
IsLastWrite before w done after (Port n) =
    IsWriteRefused before w done after n ⊎ IsUnread before w done after n
IsLastWrite before w done after (Stuck n) =
    (n ≡ done + 1) × (after.targets ≡ write_targets before.targets w)
    × IsShownOtherwise after.targets w

-- ---- all writes

-- each of the first writes read back as it was written, before the next one was made
abbrev pub AreReadBack : List Target → List Write → ℕ → Type 0
AreReadBack before writes count =
    (k : ℕ) (w : Write) → k < count → slice_get writes k ≡ Some w
    → ShowsNumber (after_writes before (take (suc k) writes)) w.slot w.offset w.width w.value

-- the next write was refused: an access failed, or its function isn't there; each before it was read back
pub record IsNextRefused (before : Moment) (writes : List Write)
    (failures_after done : ℕ) : Type 0 where
  pub next : Write
  pub listed : slice_get writes done ≡ Some next
  pub read_back : AreReadBack before.targets writes done
  pub refused : IsRefusedAt before next.slot failures_after

-- or reading back the last one failed; each before it was read back
pub record IsLastUnread (before : Moment) (writes : List Write)
    (failures_after done : ℕ) : Type 0 where
  pub last : ℕ
  pub is_last : done ≡ last + 1
  pub read_back : AreReadBack before.targets writes last
  pub failed : before.failures < failures_after

-- which of the first writes were read back where an access ended them
abbrev pub AreReadBackOrFailed : Moment → List Write → ℕ → ℕ → Type 0
AreReadBackOrFailed before writes failures_after done =
    IsNextRefused before writes failures_after done
    ⊎ IsLastUnread before writes failures_after done

-- the first writes were made, and each was read back
pub record AreWritesMade (before : List Target) (writes : List Write) (count : ℕ)
    (after : List Target) : Type 0 where
  pub within : count ≤ length writes
  pub made : after ≡ after_writes before (take count writes)
  pub read_back : AreReadBack before writes count

-- an access failed, or the function of a write isn't there
abbrev pub IsPortCause : Moment → List Write → ℕ → Type 0
IsPortCause before writes failures_after =
    (before.failures < failures_after)
    ⊎ ((w : Write) × Contains writes w × IsFalse (has_function before.targets w.slot))

pub record IsPortStop (before : Moment) (writes : List Write) (after : Moment)
    (done : ℕ) : Type 0 where
  pub within : done ≤ length writes
  pub made : after.targets ≡ after_writes before.targets (take done writes)
  pub read_back : AreReadBackOrFailed before writes after.failures done
  pub cause : IsPortCause before writes after.failures

-- the last write that was made reads back otherwise
pub record IsStuckStop (before : List Target) (writes : List Write) (after : List Target)
    (done : ℕ) : Type 0 where
  pub last : ℕ
  pub is_last : done ≡ last + 1
  pub write : Write
  pub listed : slice_get writes last ≡ Some write
  pub made : after ≡ after_writes before (take done writes)
  pub read_back : AreReadBack before writes last
  pub otherwise : IsShownOtherwise after write

abbrev pub IsApplyStop : Moment → List Write → Moment → ApplyFault → Type 0
IsApplyStop before writes after (Changed slot offset) = ⊥
IsApplyStop before writes after (Port done) = IsPortStop before writes after done
IsApplyStop before writes after (Stuck done) =
    IsStuckStop before.targets writes after.targets done

-- what making leaves, by its answer
abbrev pub AreMadeBy : {T : Type 0} → Moment → List Write → Moment → Result T ApplyFault → Type 0
AreMadeBy before writes after (Ok x) =
    AreWritesMade before.targets writes (length writes) after.targets
    × (after.failures ≡ before.failures)
AreMadeBy before writes after (Err fault) = IsApplyStop before writes after fault
