use Rattle.plan_spec.specs.PlanPromise.{changes_between}
use Rattle.pci_place.specs.Above.{system_in}
use Rattle.pci_plan.specs.Plans.{final_of}
use Rattle.pciplan_tasks.proofs.PlainWrites.{plain_writes}
use Rattle.pciplan_tasks.proofs.planning.plan_text.Goals as goal

pub lines_of-requires : goal.lines_of-requires
lines_of-requires g c =
    let p = c.args.plan in
    plain_writes c.writes.result.now p.writes (changes_between (system_in p.start) (final_of p)) c.writes.ensures.value c.writes.ensures.exact
