use Rattle.std.proofs.Common.{◌≡◌, map, subst}
use Rattle.std.specs.Prelude.{IfOk}
use Rattle.settle_spec.specs.Sparing.{granted_beside}
use Rattle.pci_plan.specs.Writes.{write_value}
use Rattle.pci_place.specs.Above.{system_in}
use Rattle.pci_first_fit.specs.Slots.{demand_value}
use Rattle.pci_settle.specs.Denied.{denied_value}
use Rattle.pci_settle.specs.FaultText.{settle_fault_text}
use Rattle.pci_settle.specs.Requests.{request}
use Rattle.pci_settle.specs.declared.lack.SettleFault.{SettleFault}
use Rattle.pciplan_tasks.specs.Answers.{answer_of, fault_answer_line, refused}
use Rattle.pciplan_tasks.proofs.ByWords.{settled_taken, not_settled_taken}
use Rattle.pciplan_tasks.proofs.SettlingWrites.{plain_writes}
use Rattle.pciplan_tasks.proofs.settling_by_words.settle_in.Goals as goal

pub ended-requires : goal.ended-requires
ended-requires g c =
    let a = c.args.admitted.now in
    let q = request a.roots (demand_value c.args.lists.now) c.args.asked.now.fixed.now c.args.asked.now.request.now.anew in
    let spared = c.in-Ok.ensures.spared in
    plain_writes spared.placing (system_in a) (granted_beside q spared.placing (system_in a)).kept c.in-Ok.settled.writes.all.items spared.ends

pub returns-in-Ok : goal.returns-in-Ok
returns-in-Ok g c =
    let a = c.args.admitted.now in
    let settled = c.in-Ok.settled in
    settled_taken c.args.asked.now.request.now c.args.kept.now a (demand_value c.args.lists.now) c.args.asked.now.fixed.now c.args.asked.now.request.now.anew c.args.asked.now.printed
    c.args.texts.now.dump.now c.args.texts.now.probe.now settled.dump (map write_value settled.writes.all.items) settled.writes.closings (map denied_value settled.denied.items) c.ended.result
    c.in-Ok.ensures.sized c.in-Ok.ensures.titles c.in-Ok.ensures.spared c.ended.ensures

pub returns-in-Err-Fault : goal.returns-in-Err-Fault
returns-in-Err-Fault g c =
    not_settled_taken c.args.asked.now.request.now c.args.kept.now c.args.admitted.now (demand_value c.args.lists.now) c.args.asked.now.fixed.now c.args.asked.now.request.now.anew c.args.asked.now.printed
    c.args.texts.now.dump.now c.args.texts.now.probe.now c.in-Err-Fault.fault c.refused.result
    (rw c.in-Err-Fault.field-0-is at c.in-Err-Fault.ensures.refusal)
    (subst (λ (f : SettleFault). IfOk c.refused.result (λ reply. answer_of reply ≡ refused (fault_answer_line (settle_fault_text f)))) c.users_fault.ensures c.refused.ensures)
