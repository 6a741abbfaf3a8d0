-- What `here` answers of a domain.
use Rattle.std.proofs.Common.{◌≡◌, Global, IfOk, List, Option, None, Some, Result, Ok, Err, refl, sym, subst}
use Rattle.pci_spec.specs.Text.{Block}
use Rattle.pci_spec.specs.NoProbe.{Any}
use Rattle.pci_spec.specs.ProbeOf.{ProbeFault, probe_fault_text, probe_of}
use Rattle.pci_base.specs.declared.memory.OutOfMemory.{OutOfMemory}
use Rattle.pci_here.specs.declared.domain.Domain.{Domain}
use Rattle.pciplan_tasks.specs.Answers.{Answer, answer_of, fault_answer_line, refused}
use Rattle.pciplan_tasks.specs.ProbeAnswers.{probe_answer}
use Rattle.pciplan_tasks.specs.declared.reply.Reply.{Reply}
use Rattle.pciplan_front.specs.DomainAnswers.{IsByProbe, IsJudgedIn, IsAnswerToldIn, probe_fault_in, what_judged}
use Rattle.pciplan_front.specs.declared.domain_reply.Judging.{Judging}
use Rattle.pciplan_front.specs.declared.domain_reply.Judging.TheVariants as judging
use Rattle.pciplan_front.specs.declared.here_asked.What.{What}
use Rattle.pciplan_front.specs.declared.here_asked.What.TheVariants.{Probe}

-- the answer by a probe that is derived, and the line of a fault for which none is
by_probe : (d : Domain) (Means : List Block → List Block → Answer → Type 0) (probe : List Block) (answer : Answer)
    → probe_fault_in d ≡ None → probe ≡ probe_of d.dump d.sizes → Means d.dump probe answer → IsByProbe d Means (probe_fault_in d) answer
by_probe d Means probe answer none is means =
    subst (λ (v : Option ProbeFault). IsByProbe d Means v answer) (sym none) (subst (λ (p : List Block). Means d.dump p answer) is means)

by_fault : (d : Domain) (Means : List Block → List Block → Answer → Type 0) (fault : ProbeFault) (answer : Answer)
    → probe_fault_in d ≡ Some fault → answer ≡ refused (fault_answer_line (probe_fault_text fault)) → IsByProbe d Means (probe_fault_in d) answer
by_fault d Means fault answer is line = subst (λ (v : Option ProbeFault). IsByProbe d Means v answer) (sym is) line

-- the same of a domain that is judged
pub judged_by_probe : (judging : Judging) (d : Domain) (dump probe : List Block) (answer told : Answer)
    → probe_fault_in d ≡ None → probe ≡ probe_of d.dump d.sizes → dump ≡ d.dump → IsJudgedIn d judging dump probe answer
    → told.status ≡ answer.status → told.text ≡ answer.text → IsAnswerToldIn (what_judged judging) d told
judged_by_probe judging.Faults d dump probe answer told none is same judged same_status same_text =
    record {
      answer = answer;
      is = by_probe d (IsJudgedIn d judging.Faults) probe answer none is (subst (λ (v : List Block). IsJudgedIn d judging.Faults v probe answer) same judged);
      same_status = same_status;
      same_text = same_text;
    }
judged_by_probe judging.Map d dump probe answer told none is same judged same_status same_text =
    record {
      answer = answer;
      is = by_probe d (IsJudgedIn d judging.Map) probe answer none is (subst (λ (v : List Block). IsJudgedIn d judging.Map v probe answer) same judged);
      same_status = same_status;
      same_text = same_text;
    }

judged_by_fault : (judging : Judging) (d : Domain) (fault : ProbeFault) (told : Answer)
    → probe_fault_in d ≡ Some fault → told ≡ refused (fault_answer_line (probe_fault_text fault)) → IsAnswerToldIn (what_judged judging) d told
judged_by_fault judging.Faults d fault told is line =
    record { answer = told; is = by_fault d (IsJudgedIn d judging.Faults) fault told is line; same_status = refl; same_text = refl }
judged_by_fault judging.Map d fault told is line =
    record { answer = told; is = by_fault d (IsJudgedIn d judging.Map) fault told is line; same_status = refl; same_text = refl }

pub fault_told : (judging : Judging) (d : Domain) (fault : ProbeFault) (result : Result (Reply Global) OutOfMemory)
    → probe_fault_in d ≡ Some fault → IfOk result (λ reply. answer_of reply ≡ refused (fault_answer_line (probe_fault_text fault)))
    → IfOk result (λ reply. IsAnswerToldIn (what_judged judging) d (answer_of reply))
fault_told judging d fault (Ok reply) is line = judged_by_fault judging d fault (answer_of reply) is line
fault_told judging d fault (Err memory) is line = tt

-- the probe that is derived
pub probe_told : (what : What) (d : Domain) (result : Result (Reply Global) OutOfMemory)
    → what ≡ Probe → IfOk result (λ reply. answer_of reply ≡ probe_answer Any d.dump d.sizes)
    → IfOk result (λ reply. IsAnswerToldIn what d (answer_of reply))
probe_told what d (Ok reply) same is =
    subst (λ (w : What). IsAnswerToldIn w d (answer_of reply)) (sym same)
    record { answer = answer_of reply; is = is; same_status = refl; same_text = refl }
probe_told what d (Err memory) same is = tt
