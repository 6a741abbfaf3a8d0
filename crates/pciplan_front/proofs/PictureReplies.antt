-- From an answer with its picture to a line that is carried out.
use Rattle.std.proofs.Common.{◌≡◌, ℕ, List, [], Option, Result, Ok, Err, IfOk, subst}
use Rattle.std.specs.String.{string_bytes}
use Rattle.std.specs.Io.KnownBytes.{Appends}
use Rattle.pci_dump.specs.Begun.{AppendsBeginning}
use Rattle.pci_check.specs.Audits.{IsDumpOf}
use Rattle.pciplan_cli.specs.CarriedOut.{TextsByPath, texts}
use Rattle.pciplan_cli.specs.declared.invocation.Invocation.{Invocation}
use Rattle.pciplan_tasks.specs.Also.{IsAlsoTold}
use Rattle.pciplan_tasks.specs.Answers.{Answer, AreRemarked, IsTextOut}
use Rattle.pciplan_tasks.specs.Tasks.{IsAnswerTo}
use Rattle.pciplan_tasks.specs.declared.failure.Failure.{Failure}
use Rattle.pciplan_tasks.specs.declared.task.Beside.{Beside}
use Rattle.pciplan_tasks.specs.declared.task.Task.TheVariants as task
use Rattle.pciplan_front.specs.PictureAsked.{IsDrawnOrNot, IsPictureBegun, IsPictureDone, IsPictureReply}

pub done_of_reply : (line : Invocation) (dump second : TextsByPath) (reply : Answer) (status : ℕ) (o n eo en : Option (List ℕ)) (failed same : Type 0)
    → IsPictureReply line dump second reply → status ≡ reply.status → Appends o n reply.text → IsTextOut eo en failed reply.remarks
    → (reply.remarks ≡ [] → same) → IsPictureDone line dump second status (Appends o n) (AreRemarked eo en failed same)
done_of_reply line dump second reply status o n eo en failed same r named written remarked silent =
    record { answer = reply; is = r; named = named; written = written; remarked = (remarked, silent) }

pub begun_of_reply : (line : Invocation) (dump second : TextsByPath) (reply : Answer) (o n : Option (List ℕ))
    → IsPictureReply line dump second reply → AppendsBeginning o n reply.text → IsPictureBegun line dump second (AppendsBeginning o n)
begun_of_reply line dump second reply o n r begun = record { answer = reply; is = r; begun = begun }

-- the texts that were opened are those at the paths
pub opened_drawn : {V : Type 0} (result : Result V Failure) (answer_of : V → Answer) (line : Invocation) (beside : Beside)
    (dump_stands second_stands : List ℕ → Type 0) (dump_at second_at : List ℕ → Option (List ℕ)) (dump_left second_left : Option (List ℕ))
    → line.task ≡ task.Map beside → dump_stands (string_bytes line.dump) → second_stands (string_bytes line.probe)
    → dump_left ≡ dump_at (string_bytes line.dump) → second_left ≡ second_at (string_bytes line.probe)
    → IfOk result (λ reply. IsAlsoTold beside.also × IsAnswerTo IsDumpOf (IsDrawnOrNot beside) dump_left second_left (answer_of reply))
    → IfOk result (λ reply. IsPictureReply line (texts dump_stands dump_at) (texts second_stands second_at) (answer_of reply))
opened_drawn (Err failure) answer_of line beside ds ss dump_at second_at dl sl asked a b first next fact = tt
opened_drawn (Ok reply) answer_of line beside ds ss dump_at second_at dl sl asked a b first next fact =
    record {
      beside = beside;
      asked = asked;
      told = fact.0;
      dump_stands = a;
      second_stands = b;
      is = subst (λ v. IsAnswerTo IsDumpOf (IsDrawnOrNot beside) v (second_at (string_bytes line.probe)) (answer_of reply)) first
          (subst (λ v. IsAnswerTo IsDumpOf (IsDrawnOrNot beside) dl v (answer_of reply)) next fact.1);
    }
