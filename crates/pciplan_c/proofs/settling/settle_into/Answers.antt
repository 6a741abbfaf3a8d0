use Rattle.std.proofs.Common.{rules}
use Rattle.pciplan_c.proofs.Wants.{settle_wants}
use Rattle.pciplan_c.proofs.Settlings.{held_memory}
use Rattle.pciplan_c.proofs.settling.settle_into.Goals as goal

pub returns-in-Err-clause-memory : goal.returns-in-Err-clause-memory
returns-in-Err-clause-memory g c = λ is.
    let memory = held_memory c.in-Err.held is in
    search (rules, memory, settle_wants)

pub returns-in-Err-NotPut-Memory-clause-memory : goal.returns-in-Err-NotPut-Memory-clause-memory
returns-in-Err-NotPut-Memory-clause-memory g c = λ is.
    c.in-Err-NotPut-Memory.ensures.memory (cc (c.in-Err-NotPut-Memory.field-0-is, c.in-Err-NotPut-Memory.field-0-0-is))
