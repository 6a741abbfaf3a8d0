-- What numbering comes to where its accesses are made one by one.
use Rattle.std.specs.Prelude.{◌≡◌, ℕ, ◌≤◌, true, [], length, Option, Some, None, Result, Ok, Err, IfOk, IfErr}
use Rattle.std.specs.List.{slice_get}
use Rattle.pci_number.specs.Ready.{IsReady}
use Rattle.pci_number.specs.declared.number.Numbering.{Numbering}
use Rattle.pci_number.specs.declared.stop.Stop.{Stop}
use Rattle.pci_number.specs.declared.stop.Stop.TheVariants as stops
use Rattle.pci_number.specs.declared.access.Access.{Access}
use Rattle.pci_number.specs.declared.access.Step.{Step}
use Rattle.pci_number.specs.declared.access.Step.TheVariants.{Next, Done, Stuck}
use Rattle.pci_number.specs.declared.access.Stepped.{Stepped}
use Rattle.pci_number.specs.Answer.{AnswersWhereReady, Keeps}
use Rattle.pci_number.specs.Few.{IsFew}
use Rattle.pci_number.specs.Accesses.{most_accesses}
use Rattle.pci_number.specs.Logs.{TrueLog, accesses_then, board_then, is_read_or_write, is_new, last_made, stood_then, writes_then}
use Rattle.pci_number.specs.Single.{IsSingleThroughout, EndsSingle}
use Rattle.pci_number.specs.Stood.{board_moment}
use Rattle.pci_number.specs.Stops.{IsNumberingStop}

-- what numbering came to: an access that is still to be made is one that failed
abbrev pub outcome_of : Step → Result Numbering Stop
outcome_of (Next access) = Err stops.Port
outcome_of (Done numbering) = Ok numbering
outcome_of (Stuck told) = Err (stops.Stuck told)

-- the access that is still to be made
abbrev pub asked_by : Step → Option Access
asked_by (Next access) = Some access
asked_by (Done numbering) = None
asked_by (Stuck told) = None

-- The first accesses of a log are those of numbering a root's buses, and this is what follows from them. Of an access that is
-- asked for it says what holds once it was made, whatever the board makes of it.
pub record IsSteppedTo (world : TrueLog) (root last spare : ℕ) (stepped : Stepped) : Type 0 where
  pub within : stepped.used ≤ length world.log
  -- an access that is asked for is a read or a write, and the log ends there, or has another one
  pub asked : is_read_or_write (asked_by stepped.step) ≡ true
  pub new : is_new (slice_get world.log stepped.used) (asked_by stepped.step) ≡ true
  -- at the end the bridges have their numbers, or the first one without a number is named
  pub answer : IfOk (outcome_of stepped.step)
      (λ numbering. AnswersWhereReady spare (world.boards 0) root last numbering (world.boards stepped.used))
  -- bytes 18h to 1Ah of bridges behind this root alone were changed
  pub kept : Keeps (world.boards 0) root last (board_then world stepped.used (asked_by stepped.step))
  -- each board that stood is single, from when the bridges on the root bus are closed, or from the start
  pub single : IsReady (world.boards 0) root last
      → IsSingleThroughout (board_moment (world.boards 0) []) root (outcome_of stepped.step)
      (stood_then world stepped.used (asked_by stepped.step))
  pub end : IfOk (outcome_of stepped.step) (λ _. EndsSingle (world.boards 0) root last (world.boards stepped.used))
  -- a number that wasn't taken was written last, and isn't what is read there
  pub stop : IfErr (outcome_of stepped.step)
      (IsNumberingStop (world.boards stepped.used) (last_made world.log stepped.used))
  -- at most 8 writes are made for each bridge behind this root
  pub few : IsFew (world.boards 0) root last 0 (writes_then world.log stepped.used (asked_by stepped.step))
  -- so many accesses are made at most, a write that is asked for among them, whatever the board is
  pub bounded : accesses_then stepped.used (asked_by stepped.step) ≤ most_accesses root last
