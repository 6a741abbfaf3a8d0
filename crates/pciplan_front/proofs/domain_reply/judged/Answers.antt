use Rattle.std.proofs.Common.{◌≡◌, None, refl, subst}
use Rattle.pci_spec.specs.ProbeOf.{probe_of}
use Rattle.pci_machine.specs.ProbeFault.{IsFirstProbeFault, fault_value}
use Rattle.pci_machine.specs.declared.assuming.Assuming.TheVariants.{Any}
use Rattle.pciplan_tasks.specs.Answers.{answer_of}
use Rattle.pciplan_front.specs.DomainAnswers.{probe_fault_in}
use Rattle.pciplan_front.proofs.DomainReplies.{fault_told, judged_by_probe}
use Rattle.pciplan_front.proofs.domain_reply.judged.Goals as goal

pub returns-in-Err-Fault : goal.returns-in-Err-Fault
returns-in-Err-Fault c =
    fault_told c.args.judging c.args.domain (fault_value c.in-Err-Fault.fault) c.refused.result
    (subst (IsFirstProbeFault Any c.args.domain.dump c.args.domain.sizes) c.in-Err-Fault.field-0-is c.in-Err-Fault.ensures.fault)
    (rw c.in-Err-Fault.fault-is at c.refused.ensures)

pub returns : goal.returns
returns c =
    let none : probe_fault_in c.args.domain ≡ None = c.in-Ok.ensures.told in
    let is : c.in-Ok.derivation.probe ≡ probe_of c.args.domain.dump c.args.domain.sizes = c.in-Ok.ensures.probe in
    judged_by_probe c.args.judging c.args.domain c.beside_of-dump.result.0 c.in-Ok.derivation.probe
    (answer_of c.in_ok-reply.reply) _ none is c.beside_of-dump.ensures.dump
    (c.beside_of-dump.result.1, c.beside_of-dump.ensures.beside, c.in_ok-reply.ensures) refl refl
