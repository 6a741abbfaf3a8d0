use Rattle.std.proofs.Common.{sym, ◌∙◌, inl}
use Rattle.pciplan_tasks.specs.SettleAnswers.{SettleAsked, request_said}
use Rattle.pciplan_tasks.proofs.SettlingTold.{ready_is_told, none_told}
use Rattle.pciplan_tasks.proofs.settling.settle_pair.Goals as goal

pub returns-then-is_empty : goal.returns-then-is_empty
returns-then-is_empty g c =
    let asked : SettleAsked = record { request = request_said c.args.request.now c.args.dump; printed = c.args.printed } in
    ready_is_told asked c.args.dump c.args.probe c.settle_texts.result
    (inl (sym c.ranges-2.ensures.value ∙ none_told c.ranges-2.result.now (sym c.is_empty.ensures ∙ c.if-is_empty.true)))
    c.settle_texts.ensures
