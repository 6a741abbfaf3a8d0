use Rattle.std.proofs.Common.{Ok, Err, refl, sym, ◌∙◌}
use Rattle.pci_base.specs.declared.memory.Refused.TheVariants as refusals
use Rattle.pci_plan.specs.declared.plan_fault.PlanFault.TheVariants.{NoWindow}
use Rattle.pci_plan.proofs.PlanFaults.{refused_by, not_refused, memory_is_none, plan_is_none}
use Rattle.pci_plan.proofs.planning.plan.Goals as goal

pub returns-in-Some-clause-fault : goal.returns-in-Some-clause-fault
returns-in-Some-clause-fault g c =
    refused_by c.args.admitted.now c.args.pools.now c.roots_of-roots.ensures.admitted.system (Err (refusals.Fault (NoWindow c.in-Some.slot))) (NoWindow c.in-Some.slot) refl (sym c.are_bad.ensures ∙ c.if-are_bad.false, c.in-Some.ensures)

pub returns-in-Ok-made-clause-fault : goal.returns-in-Ok-made-clause-fault
returns-in-Ok-made-clause-fault g c =
    not_refused c.args.admitted.now c.args.pools.now c.in-Ok.ensures.plannable (Ok c.in-Ok-made.plan) (plan_is_none (Ok c.in-Ok-made.plan) c.in-Ok-made.plan refl)

pub returns-in-Err-made-clause-fault : goal.returns-in-Err-made-clause-fault
returns-in-Err-made-clause-fault g c =
    not_refused c.args.admitted.now c.args.pools.now c.in-Ok.ensures.plannable (Err refusals.Memory) (memory_is_none (Err refusals.Memory) refl)
