use Rattle.std.proofs.Common.{Ok}
use Rattle.pciplan_tasks.proofs.Tasks.{dump_read, read_ok}
use Rattle.pciplan_tasks.specs.Tasks.{AreSizesOf}
use Rattle.pciplan_tasks.proofs.run.derive_texts.Goals as goal

pub returns-clause-reply : goal.returns-clause-reply
returns-clause-reply g c = (
  tt,
  record {
    dump = c.in_ok-dump.dump;
    second = c.in_ok-sizes.sizes;
    dump_text = dump_read (g.D.Source.left c.args.dump.now) c.read_dump.result (Ok c.in_ok-dump.dump) c.in_ok-dump.ensures.cases c.read_dump.ensures.ok c.read_dump.ensures.only;
    second_text = read_ok (AreSizesOf (g.S.Source.left c.args.sizes.now)) c.read_sizes.result (Ok c.in_ok-sizes.sizes) c.in_ok-sizes.ensures.cases c.read_sizes.ensures.ok;
    means = c.in_ok-derive.ensures;
  },
)
