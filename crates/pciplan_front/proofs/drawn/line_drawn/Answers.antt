use Rattle.std.proofs.Common.{inr}
use Rattle.pciplan_tasks.specs.Answers.{answer_of}
use Rattle.pciplan_tasks.specs.declared.task.Task.TheVariants as task
use Rattle.pciplan_front.proofs.Opened.{opened_refused, unopened_refused}
use Rattle.pciplan_front.proofs.PictureReplies.{opened_drawn}
use Rattle.pciplan_front.proofs.drawn.line_drawn.Goals as goal

pub returns-in-Ok-clause-reply : goal.returns-in-Ok-clause-reply
returns-in-Ok-clause-reply g c =
    opened_drawn c.drawn_texts.result (λ reply. answer_of reply) c.args.line.now c.args.beside.now
    (g.D.Opening.stands c.args.dump.now) (g.P.Opening.stands c.args.second.now)
    (g.D.Opening.bytes_at c.args.dump.now) (g.P.Opening.bytes_at c.args.second.now)
    (g.D.Source.left c.open_texts.new.dump) (g.P.Source.left c.open_texts.new.probe)
    c.requires c.in-Ok.ensures.stands.0 c.in-Ok.ensures.stands.1 c.in-Ok.ensures.bytes.0 c.in-Ok.ensures.bytes.1 c.drawn_texts.ensures.reply

pub returns-in-Ok-clause-refused : goal.returns-in-Ok-clause-refused
returns-in-Ok-clause-refused g c =
    opened_refused c.args.line.now (task.Map c.args.beside.now) (g.D.Opening.bytes_at c.args.dump.now) (g.P.Opening.bytes_at c.args.second.now)
    (g.D.Source.left c.open_texts.new.dump) (g.P.Source.left c.open_texts.new.probe)
    c.drawn_texts.result inr c.requires c.in-Ok.ensures.bytes.0 c.in-Ok.ensures.bytes.1 c.drawn_texts.ensures.failure

pub returns-in-Err-clause-refused : goal.returns-in-Err-clause-refused
returns-in-Err-clause-refused g c =
    unopened_refused c.args.line.now (g.D.Opening.bytes_at c.args.dump.now) (g.P.Opening.bytes_at c.args.second.now)
    c.in-Err.failure (g.D.Source.failures c.args.dump.now) (g.D.Source.failures c.open_texts.new.dump) inr c.in-Err.ensures.named
