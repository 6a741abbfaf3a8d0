use Rattle.std.proofs.Common.{rules}
use Rattle.pciplan_c.proofs.NotAdmitted.{not_admitted}
use Rattle.pciplan_c.proofs.admitting.admit_texts.Goals as goal

pub returns-in-Err-Fault-admitted-clause-why : goal.returns-in-Err-Fault-admitted-clause-why
returns-in-Err-Fault-admitted-clause-why g c = search (rules, not_admitted)
