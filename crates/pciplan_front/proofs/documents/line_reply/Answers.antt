use Rattle.std.proofs.Common.{inr, refl}
use Rattle.pciplan_tasks.specs.Answers.{answer_of}
use Rattle.std.specs.String.{string_bytes}
use Rattle.pciplan_front.proofs.JsonReplies.{opened_answered}
use Rattle.pciplan_front.proofs.Opened.{opened_refused, unopened_refused}
use Rattle.pciplan_front.proofs.documents.line_reply.Goals as goal

pub returns-in-Ok-clause-reply : goal.returns-in-Ok-clause-reply
returns-in-Ok-clause-reply g c =
    opened_answered c.reply_to.result (λ reply. answer_of reply) c.args.line.now.task (g.D.Source.left c.open_texts.new.dump) (g.P.Source.left c.open_texts.new.probe)
    (g.D.Opening.bytes_at c.args.dump.now (string_bytes c.args.line.now.dump)) (g.P.Opening.bytes_at c.args.second.now (string_bytes c.args.line.now.probe))
    c.in-Ok.ensures.stands.0 c.in-Ok.ensures.stands.1 c.in-Ok.ensures.bytes.0 c.in-Ok.ensures.bytes.1 c.reply_to.ensures.reply

pub returns-in-Ok-clause-refused : goal.returns-in-Ok-clause-refused
returns-in-Ok-clause-refused g c =
    opened_refused c.args.line.now c.args.line.now.task (g.D.Opening.bytes_at c.args.dump.now) (g.P.Opening.bytes_at c.args.second.now)
    (g.D.Source.left c.open_texts.new.dump) (g.P.Source.left c.open_texts.new.probe)
    c.reply_to.result inr refl c.in-Ok.ensures.bytes.0 c.in-Ok.ensures.bytes.1 c.reply_to.ensures.failure

pub returns-in-Err-clause-refused : goal.returns-in-Err-clause-refused
returns-in-Err-clause-refused g c =
    unopened_refused c.args.line.now (g.D.Opening.bytes_at c.args.dump.now) (g.P.Opening.bytes_at c.args.second.now)
    c.in-Err.failure (g.D.Source.failures c.args.dump.now) (g.D.Source.failures c.open_texts.new.dump) inr c.in-Err.ensures.named
