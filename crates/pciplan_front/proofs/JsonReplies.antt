-- From an answer with its document to a line that is carried out.
use Rattle.std.proofs.Common.{◌≡◌, ℕ, List, [], Option, Result, Ok, Err, IfOk, sym, ap, subst, ◌∙◌}
use Rattle.std.specs.Io.KnownBytes.{Appends}
use Rattle.pci_dump.specs.Begun.{AppendsBeginning}
use Rattle.pciplan_cli.specs.CarriedOut.{TextsByPath}
use Rattle.pciplan_cli.specs.declared.invocation.Invocation.{Invocation}
use Rattle.pciplan_tasks.specs.Answers.{Answer, AreRemarked, IsTextOut}
use Rattle.pciplan_tasks.specs.Tasks.{IsAnswerOf}
use Rattle.pciplan_tasks.specs.declared.failure.Failure.{Failure}
use Rattle.pciplan_tasks.specs.declared.task.Task.{Task}
use Rattle.pciplan_front.specs.JsonAsked.{IsJsonReply, IsLineBegun, IsLineDone, document_line}

pub done_of_reply : (line : Invocation) (dump second : TextsByPath) (reply : Answer) (status : ℕ) (o n eo en : Option (List ℕ)) (failed same : Type 0)
    → IsJsonReply line dump second reply → status ≡ reply.status → Appends o n reply.text → IsTextOut eo en failed reply.remarks
    → (reply.remarks ≡ [] → same) → IsLineDone line dump second status (Appends o n) (AreRemarked eo en failed same)
done_of_reply line dump second reply status o n eo en failed same r named written remarked silent =
    let is_status : status ≡ r.answer.status = named ∙ ap (λ (a : Answer). a.status) r.line_is in
    record {
      command = r.command;
      documented = r.documented;
      carried_out = record {
        dump_stands = r.dump_stands;
        second_stands = r.second_stands;
        answered = record {
          answer = r.answer;
          is = r.is;
          named = is_status;
          written = subst (λ s. Appends o n (document_line r.command s r.answer.text)) (sym is_status)
              (subst (λ (a : Answer). Appends o n a.text) r.line_is written);
          remarked = subst (λ (a : Answer). AreRemarked eo en failed same a.remarks) r.line_is (remarked, silent);
        };
      };
    }

pub begun_of_reply : (line : Invocation) (dump second : TextsByPath) (reply : Answer) (o n : Option (List ℕ))
    → IsJsonReply line dump second reply → AppendsBeginning o n reply.text → IsLineBegun line dump second (AppendsBeginning o n)
begun_of_reply line dump second reply o n r begun =
    record {
      command = r.command;
      documented = r.documented;
      answer = r.answer;
      is = r.is;
      begun = subst (λ (a : Answer). AppendsBeginning o n a.text) r.line_is begun;
    }

-- ---- the texts that were opened are those at the paths of a line

pub opened_answered : {V A B : Type 0} (result : Result V Failure) (answer_of : V → Answer) (t : Task) (dump_left second_left dump second : Option (List ℕ))
    → A → B → dump_left ≡ dump → second_left ≡ second → IfOk result (λ reply. IsAnswerOf t dump_left second_left (answer_of reply))
    → IfOk result (λ reply. A × B × IsAnswerOf t dump second (answer_of reply))
opened_answered (Err failure) answer_of t dl sl dump second a b first next fact = tt
opened_answered (Ok reply) answer_of t dl sl dump second a b first next fact =
    (a, b, subst (λ v. IsAnswerOf t v second (answer_of reply)) first (subst (λ v. IsAnswerOf t dl v (answer_of reply)) next fact))
