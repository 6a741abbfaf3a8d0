use Rattle.std.proofs.Common.{◌∙◌}
use Rattle.pciplan_words.proofs.CommandLines.{local_arg, with_next_arg}
use Rattle.pciplan_words.proofs.commands.with_arguments.Goals as goal

pub loop-argument-preserved : goal.loop-argument-preserved
loop-argument-preserved c =
    let adds = c.in_ok-command.ensures in
    let was = c.loop-argument.invariant in
    record {
      app = with_next_arg _ c.args.arguments.now c.loop-argument.argument-index _ c.loop-argument-test.true adds was.app c.arg_of.ensures.rule c.arg_of.ensures.local;
      local = local_arg adds c.arg_of.ensures.local ∙ was.local;
    }
