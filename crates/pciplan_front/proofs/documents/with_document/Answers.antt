use Rattle.std.proofs.Common.{◌≡◌, ap, sym, ◌∙◌}
use Rattle.pciplan_tasks.specs.Answers.{answer_of, text_bytes}
use Rattle.pciplan_front.specs.JsonAsked.{document_line}
use Rattle.pciplan_front.proofs.documents.with_document.Goals as goal

pub returns-clause-document : goal.returns-clause-document
returns-clause-document c =
    let told = answer_of c.args.reply in
    let text : told.text ≡ c.as_str.result.now = ap text_bytes c.in-Lines.is ∙ sym c.as_str.ensures.value in
    let line =
    c.in_ok-made-in-Lines.ensures.text
    ∙ ap (λ s. document_line c.args.command s c.as_str.result.now) c.status-status.ensures.named
    ∙ ap (λ t. document_line c.args.command told.status t) (sym text) in
    λ i. record { status = told.status; text = line i; remarks = told.remarks }
