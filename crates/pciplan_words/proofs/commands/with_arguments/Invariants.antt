use Rattle.std.proofs.Common.{◌≡◌, fold, take}
use Rattle.clap.specs.Words.{app_of}
use Rattle.clap.specs.declared.builder.command.Command.TheViews.{out-Command}
use Rattle.pciplan_words.specs.Arguments.{with_argument}
use Rattle.pciplan_words.proofs.commands.with_arguments.Given as goal

abbrev pub invariant-loop-argument : goal.invariant-loop-argument
invariant-loop-argument l = record {
  app : app_of l.command ≡ fold with_argument (app_of l.initial.command) (take l.argument-index l.arguments);
  local : (out-Command l.command).has_globals ≡ (out-Command l.initial.command).has_globals;
}
