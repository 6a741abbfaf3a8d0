use Rattle.pciplan_words.proofs.CommandLines.{with_next_sub}
use Rattle.pciplan_words.proofs.commands.with_subcommands.Goals as goal

pub loop-subcommand-preserved : goal.loop-subcommand-preserved
loop-subcommand-preserved c =
    with_next_sub _ c.args.subcommands.now c.loop-subcommand.subcommand-index _ c.loop-subcommand-test.true c.in_ok-command.ensures c.loop-subcommand.invariant
    c.in_ok-command_of.ensures.app c.in_ok-command_of.ensures.local
