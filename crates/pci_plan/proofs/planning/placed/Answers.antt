use Rattle.std.proofs.Common.{Ok, Err, refl}
use Rattle.plan_spec.specs.PlanPromise.{CanBePlanned}
use Rattle.pci_base.specs.declared.memory.Refused.TheVariants as refusals
use Rattle.pci_place.specs.Above.{system_in}
use Rattle.pci_place.specs.Pools.{pools_value}
use Rattle.pci_plan.specs.declared.plan_fault.PlanFault.TheVariants.{NoRoom}
use Rattle.pci_plan.proofs.PlanFaults.{refused_by, not_refused, memory_is_none, plan_is_none}
use Rattle.pci_plan.proofs.planning.placed.Goals as goal

pub returns-in-Some-clause-fault : goal.returns-in-Some-clause-fault
returns-in-Some-clause-fault g c =
    refused_by c.args.admitted.now c.args.pools.now c.roots_of-roots.ensures.admitted.system (Err (refusals.Fault (NoRoom c.in-Some.class))) (NoRoom c.in-Some.class) refl
    (c.requires.good, c.requires.windows, c.in-Some.ensures)

pub returns-in-Ok-clause-fault : goal.returns-in-Ok-clause-fault
returns-in-Ok-clause-fault g c =
    let a = c.args.admitted.now in
    let can : CanBePlanned a.roots (system_in a) (pools_value c.args.pools.now) = record { good = c.requires.good; windows = c.requires.windows; room = c.in-None.ensures } in
    not_refused a c.args.pools.now can (Ok c.in-Ok.headers) (plan_is_none (Ok c.in-Ok.headers) c.in-Ok.headers refl)

pub returns-in-Err-clause-fault : goal.returns-in-Err-clause-fault
returns-in-Err-clause-fault g c =
    let a = c.args.admitted.now in
    let can : CanBePlanned a.roots (system_in a) (pools_value c.args.pools.now) = record { good = c.requires.good; windows = c.requires.windows; room = c.in-None.ensures } in
    not_refused a c.args.pools.now can (Err refusals.Memory) (memory_is_none (Err refusals.Memory) refl)
