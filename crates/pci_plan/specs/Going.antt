-- What steps leave behind a port, where they go on and where they stop.
use Rattle.std.specs.Prelude.{◌≡◌, ℕ, ◌<◌, ◌⊎◌, ◌&&◌, IsTrue, Option, Some, MatchOption, Result, IsErrAnd, List, length, slice_get}
use Rattle.pci_spec.specs.Machine.{Target, Write, write_targets}
use Rattle.pci_spec.specs.Port.{is_access, fits, has_function, ShowsNumber}
use Rattle.pci_plan.specs.Comparing.{Moment, IsRefusedAt}
use Rattle.pci_plan.specs.Making.{IsShownOtherwise, AreMadeBy}
use Rattle.pci_plan.specs.declared.apply_fault.ApplyFault.{ApplyFault}
use Rattle.pci_plan.specs.declared.apply_fault.ApplyFault.TheVariants.{Changed, Port, Stuck}
use Rattle.pci_plan.specs.Writes.{write_value}
use Rattle.pci_plan.specs.declared.step.Kind.{Kind}
use Rattle.pci_plan.specs.declared.step.Kind.TheVariants.{Compare, Make, ReadBack}
use Rattle.pci_plan.specs.declared.step.Step.{Step as CodeStep}
use Rattle.pci_plan.specs.Steps.{AccessStep}

abbrev pub code_step : CodeStep → AccessStep
code_step s = record { kind = s.kind; register = write_value s.register; done = s.done }

-- a port takes a read of the register; and a write of the number
abbrev pub TakesRead : Write → Type 0
TakesRead w = IsTrue (is_access w.offset w.width)

abbrev pub IsWritable : Write → Type 0
IsWritable w = IsTrue (is_access w.offset w.width && fits w.width w.value)

-- it takes the access of a step
abbrev pub TakesStep : Kind → Write → Type 0
TakesStep Compare w = TakesRead w
TakesStep Make w = IsWritable w
TakesStep ReadBack w = TakesRead w

-- ---- one step

-- a register that is read shows this, or the access failed; nothing has changed
pub record ReadsRegister (before : Moment) (w : Write) (shown : Option ℕ) (after : Moment) : Type 0 where
  pub same : after.targets ≡ before.targets
  pub shows : MatchOption shown (IsRefusedAt before w.slot after.failures)
      (λ n. ShowsNumber before.targets w.slot w.offset w.width n
      × (after.failures ≡ before.failures))

-- the function is there, and takes the number
pub record WriteIsTaken (before : Moment) (w : Write) (after : Moment) : Type 0 where
  pub made : after.targets ≡ write_targets before.targets w
  pub there : IsTrue (has_function before.targets w.slot)
  pub counted : after.failures ≡ before.failures

-- a register takes its number, or the access failed and has changed nothing
abbrev pub Writes : Moment → Write → Option ℕ → Moment → Type 0
Writes before w shown after =
    MatchOption shown
    ((after.targets ≡ before.targets) × IsRefusedAt before w.slot after.failures)
    (λ _. WriteIsTaken before w after)

-- the access of a step showed this
abbrev pub StepAnswers : Kind → Moment → Write → Option ℕ → Moment → Type 0
StepAnswers Compare before w shown after = ReadsRegister before w shown after
StepAnswers Make before w shown after = Writes before w shown after
StepAnswers ReadBack before w shown after = ReadsRegister before w shown after

-- why a register that is compared is the last one
abbrev pub IsNumberFault : Moment → Write → ℕ → ApplyFault → Type 0
IsNumberFault before w failures_after (Changed slot offset) =
    (slot ≡ w.slot) × (offset ≡ w.offset) × IsShownOtherwise before.targets w
IsNumberFault before w failures_after (Port done) =
    (done ≡ 0) × IsRefusedAt before w.slot failures_after
IsNumberFault before w failures_after (Stuck done) = ⊥

-- ---- all steps

-- the first of the registers show their numbers
abbrev pub AreFirstShown : List Target → List Write → ℕ → Type 0
AreFirstShown before compares count =
    (k : ℕ) (w : Write) → k < count → slice_get compares k ≡ Some w
    → ShowsNumber before w.slot w.offset w.width w.value

abbrev pub AreAllShown : List Target → List Write → Type 0
AreAllShown before compares = AreFirstShown before compares (length compares)

-- comparing ended them: at the first register that doesn't compare, and nothing was written
pub record IsCompareStop (before : Moment) (compares : List Write) (after : Moment)
    (fault : ApplyFault) : Type 0 where
  pub same : after.targets ≡ before.targets
  pub place : ℕ
  pub register : Write
  pub listed : slice_get compares place ≡ Some register
  pub earlier : AreFirstShown before.targets compares place
  pub reason : IsNumberFault before register after.failures fault

-- what all steps leave: comparing ended them, or all registers compared and the writes were made by the answer
abbrev pub AreRun : {T : Type 0} → Moment → List Write → List Write → Moment
    → Result T ApplyFault → Type 0
AreRun before compares writes after r =
    IsErrAnd r (IsCompareStop before compares after)
    ⊎ (AreAllShown before.targets compares × AreMadeBy before writes after r)
