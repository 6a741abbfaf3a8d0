use Rattle.std.proofs.Common.{List, [], ap, map, sym, ◌∙◌, subst, inl, inr}
use Rattle.std.specs.Prelude.{IfOk}
use Rattle.judge_spec.specs.Given.{nothing_given}
use Rattle.judge_spec.specs.Told.{ToldRange}
use Rattle.pci_faults.specs.AllLines.{any_fault_value}
use Rattle.pci_faults.specs.Every.{AreBefore, AreReadyForJudging}
use Rattle.pci_faults.specs.declared.any_fault.AnyFault.{AnyFault}
use Rattle.pci_tree.specs.Roots.{buses_of}
use Rattle.pciplan_tasks.specs.Answers.{answer_of}
use Rattle.pciplan_tasks.specs.MapAnswers.{IsFirstLine}
use Rattle.pciplan_tasks.proofs.ByWords.{taken_ready, taken_unready}
use Rattle.pciplan_tasks.proofs.SettlingTold.{none_told}
use Rattle.pciplan_tasks.proofs.settling_by_words.settle_told.Goals as goal

pub returns-then-is_empty : goal.returns-then-is_empty
returns-then-is_empty g c =
    taken_ready c.args.asked.now.words c.args.asked.now.request.now c.args.asked.now.printed c.args.asked.now.fixed.now c.args.asked.now.left.now c.args.texts.now.dump.now c.args.texts.now.probe.now c.args.taken.dump c.args.taken.probe c.settle_taken.result
    (inl (sym c.ranges-ranges.ensures.value ∙ none_told c.ranges-ranges.result.now (sym c.is_empty.ensures ∙ c.if-is_empty.true)))
    c.settle_taken.ensures

pub first_line-requires : goal.first_line-requires
first_line-requires g c =
    let found = rw c.in-Refused.is at c.in_ok-found.ensures in
    λ none. (found nothing_given).some (ap (map any_fault_value) (sym c.as_slice.ensures.value) ∙ none)

pub returns-in-Refused : goal.returns-in-Refused
returns-in-Refused g c =
    let found = (rw c.in-Refused.is at c.in_ok-found.ensures) nothing_given in
    let faults = map any_fault_value c.in-Refused.faults.items in
    taken_unready c.args.asked.now.words c.args.asked.now.request.now c.args.asked.now.printed c.args.asked.now.fixed.now c.args.asked.now.left.now c.args.texts.now.dump.now c.args.texts.now.probe.now c.args.taken.dump c.args.taken.probe faults c.first_line.result
    (subst (λ (rs : List ToldRange). AreBefore record { ranges = rs; asleep = [] } nothing_given (buses_of c.args.asked.now.request.now.roots) c.args.taken.dump c.args.taken.probe faults) c.ranges-ranges.ensures.value found.before)
    (subst (λ (items : List AnyFault). IfOk c.first_line.result (λ reply. IsFirstLine (map any_fault_value items) (answer_of reply))) c.as_slice.ensures.value c.first_line.ensures)

pub returns-in-Admitted : goal.returns-in-Admitted
returns-in-Admitted g c =
    let ready = rw c.in-Admitted.is at c.in_ok-found.ensures in
    taken_ready c.args.asked.now.words c.args.asked.now.request.now c.args.asked.now.printed c.args.asked.now.fixed.now c.args.asked.now.left.now c.args.texts.now.dump.now c.args.texts.now.probe.now c.args.taken.dump c.args.taken.probe c.settle_taken-in-Admitted.result
    (inr (subst (λ (rs : List ToldRange). AreReadyForJudging record { ranges = rs; asleep = [] } (buses_of c.args.asked.now.request.now.roots) c.args.taken.dump c.args.taken.probe) c.ranges-ranges.ensures.value ready.0))
    c.settle_taken-in-Admitted.ensures
