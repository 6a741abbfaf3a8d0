use Rattle.std.proofs.Common.{◌≡◌, fold, take}
use Rattle.clap.specs.Words.{app_of}
use Rattle.pciplan_words.specs.Arguments.{with_entry}
use Rattle.pciplan_words.proofs.commands.with_subcommands.Given as goal

abbrev pub invariant-loop-subcommand : goal.invariant-loop-subcommand
invariant-loop-subcommand l = app_of l.command ≡ fold with_entry (app_of l.initial.command) (take l.subcommand-index l.subcommands)
