use Rattle.std.proofs.Common.{sym, subst}
use Rattle.pci_check.proofs.Outcomes.{refused_by_survey, yes_of_outline, no_of_outline}
use Rattle.pci_check.specs.declared.outcome.Outcome.TheVariants.{No}
use Rattle.pci_check.specs.Audits.{IsAudited}
use Rattle.pci_check.proofs.audit.outcome_of.Goals as goal

pub returns-in-Err-Fault : goal.returns-in-Err-Fault
returns-in-Err-Fault g c buses dump_left probe_left s =
    subst (λ fault. IsAudited buses dump_left probe_left (No fault)) (sym c.in-Err-Fault.fault-is)
    (refused_by_survey buses dump_left probe_left c.args.survey s c.in-Err-Fault.fault (rw c.in-Err-Fault.field-0-is at c.in-Err-Fault.ensures))

pub returns-in-Some : goal.returns-in-Some
returns-in-Some g c buses dump_left probe_left s = no_of_outline buses dump_left probe_left c.args.survey s c.in-Ok.outline c.in-Ok.ensures c.in_ok-fault.field-0 c.in-Some.fault c.in-Some.is c.in_ok-fault.ensures.judgement

pub returns : goal.returns
returns g c buses dump_left probe_left s = yes_of_outline buses dump_left probe_left c.args.survey s c.in-Ok.outline c.in-Ok.ensures c.in_ok-fault.field-0 c.in-None.is c.in_ok-fault.ensures.judgement
