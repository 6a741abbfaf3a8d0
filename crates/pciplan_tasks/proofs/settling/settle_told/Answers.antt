use Rattle.std.proofs.Common.{List, [], ap, map, sym, ◌∙◌, subst, inr}
use Rattle.std.specs.Prelude.{IfOk}
use Rattle.judge_spec.specs.Given.{nothing_given}
use Rattle.judge_spec.specs.Told.{ToldRange}
use Rattle.pci_faults.specs.AllLines.{any_fault_value}
use Rattle.pci_faults.specs.Every.{AreBefore, AreReadyForJudging}
use Rattle.pci_faults.specs.declared.any_fault.AnyFault.{AnyFault}
use Rattle.pciplan_tasks.specs.Answers.{answer_of}
use Rattle.pciplan_tasks.specs.MapAnswers.{IsFirstLine}
use Rattle.pciplan_tasks.specs.SettleAnswers.{SettleAsked, request_said}
use Rattle.pciplan_tasks.proofs.SettlingTold.{ready_is_told, not_ready_is_told}
use Rattle.pciplan_tasks.proofs.settling.settle_told.Goals as goal

pub first_line-requires : goal.first_line-requires
first_line-requires g c =
    let found = rw c.in-Refused.is at c.in_ok-found.ensures in
    λ none. (found nothing_given).some (ap (map any_fault_value) (sym c.as_slice.ensures.value) ∙ none)

pub returns-in-Refused : goal.returns-in-Refused
returns-in-Refused g c =
    let asked : SettleAsked = record { request = request_said c.args.request.now c.args.dump; printed = c.args.printed } in
    let found = (rw c.in-Refused.is at c.in_ok-found.ensures) nothing_given in
    let faults = map any_fault_value c.in-Refused.faults.items in
    not_ready_is_told asked c.args.dump c.args.probe faults c.first_line.result
    (subst (λ (rs : List ToldRange). AreBefore record { ranges = rs; asleep = [] } nothing_given asked.request.roots c.args.dump c.args.probe faults) c.ranges-2.ensures.value found.before)
    (subst (λ (items : List AnyFault). IfOk c.first_line.result (λ reply. IsFirstLine (map any_fault_value items) (answer_of reply))) c.as_slice.ensures.value c.first_line.ensures)

pub returns-in-Admitted : goal.returns-in-Admitted
returns-in-Admitted g c =
    let asked : SettleAsked = record { request = request_said c.args.request.now c.args.dump; printed = c.args.printed } in
    let ready = rw c.in-Admitted.is at c.in_ok-found.ensures in
    ready_is_told asked c.args.dump c.args.probe c.settle_texts.result
    (inr (subst (λ (rs : List ToldRange). AreReadyForJudging record { ranges = rs; asleep = [] } asked.request.roots c.args.dump c.args.probe) c.ranges-2.ensures.value ready.0))
    c.settle_texts.ensures
