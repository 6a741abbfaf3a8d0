use Rattle.std.proofs.Common.{Ok}
use Rattle.pciplan_tasks.proofs.Tasks.{dump_read, pair_answered}
use Rattle.pciplan_tasks.proofs.run.pair_texts.Goals as goal

pub returns-in_ok-pair_reply-in-None-clause-reply : goal.returns-in_ok-pair_reply-in-None-clause-reply
returns-in_ok-pair_reply-in-None-clause-reply g c = (
  c.in-None.ensures,
  pair_answered c.args.task.now c.requires (g.D.Source.left c.args.dump.now) (g.P.Source.left c.args.probe.now) _ record {
    dump = c.in_ok-dump.dump;
    second = c.in_ok-probe.probe;
    dump_text = dump_read (g.D.Source.left c.args.dump.now) c.read_dump.result (Ok c.in_ok-dump.dump) c.in_ok-dump.ensures.cases c.read_dump.ensures.ok c.read_dump.ensures.only;
    second_text = dump_read (g.P.Source.left c.args.probe.now) c.read_dump-2.result (Ok c.in_ok-probe.probe) c.in_ok-probe.ensures.cases c.read_dump-2.ensures.ok c.read_dump-2.ensures.only;
    means = c.in_ok-pair_reply-in-None.ensures;
  },
)
