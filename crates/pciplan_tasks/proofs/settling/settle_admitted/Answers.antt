use Rattle.std.proofs.Common.{◌≡◌, List, map, subst, sym, ◌∙◌}
use Rattle.std.specs.Prelude.{IfOk, IsTrue}
use Rattle.std.specs.List.{All}
use Rattle.pci_spec.specs.Text.{Block}
use Rattle.settle_spec.specs.Sparing.{granted_beside}
use Rattle.pci_plan.specs.Writes.{is_two_or_four, write_value}
use Rattle.pci_plan.specs.declared.write.Write.{Write}
use Rattle.pci_settle.specs.Denied.{denied_value}
use Rattle.pci_settle.specs.declared.settle.Denied.{Denied}
use Rattle.pci_first_fit.specs.Slots.{demand_value}
use Rattle.pci_place.specs.Above.{system_in}
use Rattle.pci_settle.specs.Requests.{request}
use Rattle.pciplan_tasks.specs.Answers.{answer_of, done_with}
use Rattle.pciplan_tasks.specs.SettleAnswers.{settled_text, spare_remarks}
use Rattle.pciplan_tasks.proofs.SettlingTold.{settled_is_told, refused_is_told}
use Rattle.pciplan_tasks.proofs.SettlingWrites.{plain_writes}
use Rattle.pciplan_tasks.proofs.settling.settle_admitted.Goals as goal

pub settled_reply-requires : goal.settled_reply-requires
settled_reply-requires g c =
    let a = c.args.admitted.now in
    let q = request a.roots (demand_value c.args.lists.now) c.args.fixed.now c.args.anew in
    let spared = c.in-Ok.ensures.spared in
    subst (λ (ws : List Write). All (λ w. IsTrue (is_two_or_four w)) ws) (sym c.as_slice-writes.ensures.value)
    (plain_writes spared.placing (system_in a) (granted_beside q spared.placing (system_in a)).kept c.in-Ok.settled.writes.all.items spared.ends)

pub returns-in-Ok : goal.returns-in-Ok
returns-in-Ok g c =
    let settled = c.in-Ok.settled in
    let printed = c.args.printed in
    let start = c.blocks-start.result.now in
    let writes = c.as_slice-writes.result.now in
    let denied = c.as_slice-denied.result.now in
    let told = subst (λ (ds : List Denied). IfOk c.settled_reply.result (λ reply. answer_of reply ≡ done_with (spare_remarks (map denied_value ds)) (settled_text printed c.args.admitted.now.dump (map write_value settled.writes.all.items) settled.dump))) c.as_slice-denied.ensures.value
    (subst (λ (ws : List Write). IfOk c.settled_reply.result (λ reply. answer_of reply ≡ done_with (spare_remarks (map denied_value denied)) (settled_text printed c.args.admitted.now.dump (map write_value ws) settled.dump))) c.as_slice-writes.ensures.value
    (subst (λ (bs : List Block). IfOk c.settled_reply.result (λ reply. answer_of reply ≡ done_with (spare_remarks (map denied_value denied)) (settled_text printed bs (map write_value writes) settled.dump))) (c.blocks-start.ensures.value ∙ c.dump.ensures)
    c.settled_reply.ensures)) in
    settled_is_told c.args.admitted.now (demand_value c.args.lists.now) c.args.fixed.now c.args.anew c.args.printed settled.dump
    (map write_value settled.writes.all.items) settled.writes.closings (map denied_value settled.denied.items) c.settled_reply.result
    c.requires.admitted c.in-Ok.ensures.sized c.in-Ok.ensures.titles c.in-Ok.ensures.sound c.in-Ok.ensures.spared told

pub returns-in-Err-Fault : goal.returns-in-Err-Fault
returns-in-Err-Fault g c =
    refused_is_told c.args.admitted.now (demand_value c.args.lists.now) c.args.fixed.now c.args.anew c.args.printed c.in-Err-Fault.fault c.refused.result c.requires.admitted
    (rw c.in-Err-Fault.field-0-is at c.in-Err-Fault.ensures.refusal) (rw c.in-Err-Fault.field-0-is at c.refused.ensures)
