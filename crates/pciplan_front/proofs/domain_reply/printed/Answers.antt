use Rattle.std.proofs.Common.{◌∙◌, ap, refl, subst, sym}
use Rattle.pciplan_tasks.specs.Answers.{answer_of, done}
use Rattle.pciplan_front.specs.DomainAnswers.{IsAnswerToldIn}
use Rattle.pciplan_front.specs.declared.here_asked.What.{What}
use Rattle.pciplan_front.proofs.DomainReplies.{probe_told}
use Rattle.pciplan_front.proofs.domain_reply.printed.Goals as goal

pub returns-in-Dump : goal.returns-in-Dump
returns-in-Dump c =
    subst (λ (w : What). IsAnswerToldIn w c.args.domain (answer_of c.done.result)) (sym c.in-Dump.is)
    record { answer = answer_of c.done.result; is = c.done.ensures; same_status = refl; same_text = refl }

pub returns-in-Probe : goal.returns-in-Probe
returns-in-Probe c = probe_told c.args.what c.args.domain c.derive.result c.in-Probe.is c.derive.ensures

pub returns-in_ok-words_text-in-Words : goal.returns-in_ok-words_text-in-Words
returns-in_ok-words_text-in-Words c =
    subst (λ (w : What). IsAnswerToldIn w c.args.domain (answer_of c.done-in-Words.result)) (sym c.in-Words.is)
    record {
      answer = answer_of c.done-in-Words.result;
      is = c.done-in-Words.ensures ∙ ap done c.in_ok-words_text-in-Words.ensures;
      same_status = refl;
      same_text = refl;
    }
