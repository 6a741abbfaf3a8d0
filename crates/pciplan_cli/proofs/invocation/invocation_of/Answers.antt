use Rattle.std.proofs.Common.{◌≡◌, ◌∙◌, ap, map, rules, subst}
use Rattle.pciplan_tasks.specs.Also.{IsAlsoUnread}
use Rattle.pciplan_words.specs.Forms.{plain_words}
use Rattle.pciplan_cli.specs.Asked.{IsTaskWith}
use Rattle.pciplan_cli.proofs.AlsoTasks.{unread_told}
use Rattle.pciplan_cli.proofs.Invocations.{line_refused, none_without_forms}
use Rattle.pciplan_cli.proofs.invocation.invocation_of.Goals as goal

pub returns-in_err-given-clause-line : goal.returns-in_err-given-clause-line
returns-in_err-given-clause-line g c =
    let words = map (λ w. w.now) c.args.words.now in
    let read = map (λ w. w.now) c.as_slice.result.now in
    let plain : read ≡ plain_words words = ap (map (λ w. w.now)) c.as_slice.ensures.value ∙ c.in_ok-plain.ensures in
    search (rules, none_without_forms words read plain)

pub returns-in_err-task-clause-line : goal.returns-in_err-task-clause-line
returns-in_err-task-clause-line g c = search (rules, line_refused)

pub returns-clause-line : goal.returns-clause-line
returns-clause-line g c =
    let words = map (λ w. w.now) c.args.words.now in
    let read = map (λ w. w.now) c.as_slice.result.now in
    let plain : read ≡ plain_words words = ap (map (λ w. w.now)) c.as_slice.ensures.value ∙ c.in_ok-plain.ensures in
    record {
      asked = c.in_ok-given.given.asked;
      given = search (rules, plain);
      untold = c.in_ok-task.task;
      of_words = subst (λ f. IsTaskWith f c.in_ok-given.given.asked c.in_ok-task.task) c.form_in.ensures c.in_ok-task.ensures;
      also = c.also_told-also.result;
      told = c.also_told-also.ensures.said;
      task = c.with_also.ensures;
    }

pub returns-clause-failed : goal.returns-clause-failed
returns-clause-failed g c = λ unread.
    c.also_told-also.ensures.failed (unread_told c.in_ok-task.task c.also_told-also.result (subst (λ t. IsAlsoUnread t) c.with_also.ensures unread))
