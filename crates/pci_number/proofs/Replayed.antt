-- What follows from a log, by what numbering over a port that answers by it has left.
use Rattle.std.proofs.Common.{◌≡◌, ◌≤◌, ℕ, true, inl, List, [], length, Option, Some, None, Result, Ok, Err, IfOk, IfErr, refl}
use Rattle.std.specs.List.{slice_get}
use Rattle.pci_number.specs.Board.{Board}
use Rattle.pci_number.specs.Accesses.{most_accesses}
use Rattle.pci_number.specs.Answer.{AnswersWhereReady, Keeps}
use Rattle.pci_number.specs.Access.{nodes_behind}
use Rattle.pci_number.specs.Few.{IsFew}
use Rattle.pci_number.specs.Logs.{TrueLog, accesses_then, board_then, is_read_or_write, is_new, last_then, stood_then, writes_then}
use Rattle.pci_number.specs.Numberings.{IsSteppedTo}
use Rattle.pci_number.specs.Ready.{IsReady}
use Rattle.pci_number.specs.Single.{IsSingleThroughout, ClosedOrStopped, EndsSingle}
use Rattle.pci_number.specs.Stood.{AddsOrEnds, BoardMoment, board_moment}
use Rattle.pci_number.specs.Stops.{IsNumberingStop}
use Rattle.pci_number.specs.declared.access.Access.{Access}
use Rattle.pci_number.specs.declared.access.Step.TheVariants.{Next, Done, Stuck as IsStuck}
use Rattle.pci_number.specs.declared.number.Numbering.{Numbering}
use Rattle.pci_number.specs.declared.stop.NotTaken.{NotTaken}
use Rattle.pci_number.specs.declared.stop.Stop.{Stop}
use Rattle.pci_number.specs.declared.stop.Stop.TheVariants.{Port, Stuck}

-- what numbering has left of a port that answers by a log
pub record IsReplayed (world : TrueLog) (root last spare : ℕ) (at : ℕ) (next : Option Access) (outcome : Result Numbering Stop) : Type 0 where
  pub within : at ≤ length world.log
  pub kinds : is_read_or_write next ≡ true
  pub new : is_new (slice_get world.log at) next ≡ true
  pub answer : IfOk outcome (λ numbering. AnswersWhereReady spare (world.boards 0) root last numbering (board_then world at next))
  pub kept : Keeps (world.boards 0) root last (board_then world at next)
  pub single : IsReady (world.boards 0) root last
      → IsSingleThroughout (board_moment (world.boards 0) []) root outcome (stood_then world at next)
  pub end : IfOk outcome (λ _. EndsSingle (world.boards 0) root last (board_then world at next))
  pub stop : IfErr outcome (IsNumberingStop (board_then world at next) (last_then world.log at next))
  pub few : IsFew (world.boards 0) root last 0 (writes_then world.log at next)
  pub bounded : accesses_then at next ≤ most_accesses root last

-- ---- what is said of an outcome holds of a numbering that stopped at an access, too

stops : (P : Board → Type 0) (outcome : Result Numbering Stop) (old new : List Board) → AddsOrEnds P outcome old new
    → AddsOrEnds {T = Numbering} {E = Stop} P (Err Port) old new
stops P (Ok numbering) old new adds = (new, adds, inl refl)
stops P (Err stop) old new ends = ends

shut : (outcome : Result Numbering Stop) (from : BoardMoment) (root : ℕ) (hushed new : List Board)
    → ClosedOrStopped (nodes_behind from.board root) outcome hushed new
    → ClosedOrStopped {T = Numbering} {E = Stop} (nodes_behind from.board root) (Err Port) hushed new
shut (Ok numbering) from root hushed new done = inl done
shut (Err stop) from root hushed new done = done

single_stopped : (from : BoardMoment) (root : ℕ) (outcome : Result Numbering Stop) (new : List Board) → IsSingleThroughout from root outcome new
    → IsSingleThroughout {T = Numbering} {E = Stop} from root (Err Port) new
single_stopped from root outcome new said =
    record {
      closed = said.closed;
      hushing = said.hushing;
      done = shut outcome said.closed root said.closed.history new said.done;
      later = λ beside. stops _ outcome said.closed.history new (said.later beside);
      always = λ one. stops _ outcome from.history new (said.always one);
    }

-- ---- by what is wanted, and by the outcome

module _ (world : TrueLog) (root last spare at : ℕ) where
  pub next_stepped : (a : Access) (outcome : Result Numbering Stop) → IsReplayed world root last spare at (Some a) outcome
      → IsSteppedTo world root last spare record { used = at; step = Next a }
  next_stepped a outcome replayed =
      record {
        within = replayed.within;
        asked = replayed.kinds;
        new = replayed.new;
        answer = tt;
        kept = replayed.kept;
        single = λ ready. single_stopped (board_moment (world.boards 0) []) root outcome (stood_then world at (Some a)) (replayed.single ready);
        end = tt;
        stop = tt;
        few = replayed.few;
        bounded = replayed.bounded;
      }

  pub done_stepped : (numbering : Numbering) → IsReplayed world root last spare at None (Ok numbering)
      → IsSteppedTo world root last spare record { used = at; step = Done numbering }
  done_stepped numbering replayed =
      record {
        within = replayed.within;
        asked = refl;
        new = replayed.new;
        answer = replayed.answer;
        kept = replayed.kept;
        single = replayed.single;
        end = replayed.end;
        stop = tt;
        few = replayed.few;
        bounded = replayed.bounded;
      }

  pub stuck_stepped : (told : NotTaken) → IsReplayed world root last spare at None (Err (Stuck told))
      → IsSteppedTo world root last spare record { used = at; step = IsStuck told }
  stuck_stepped told replayed =
      record {
        within = replayed.within;
        asked = refl;
        new = replayed.new;
        answer = tt;
        kept = replayed.kept;
        single = replayed.single;
        end = tt;
        stop = replayed.stop;
        few = replayed.few;
        bounded = replayed.bounded;
      }
