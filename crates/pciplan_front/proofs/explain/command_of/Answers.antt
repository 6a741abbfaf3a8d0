use Rattle.std.proofs.Common.{rules}
use Rattle.pciplan_front.specs.Explained.{named_command}
use Rattle.pciplan_front.proofs.explain.command_of.Goals as goal

pub loop-command-init : goal.loop-command-init
unfolding named_command
loop-command-init c = search rules
