-- What the entries of the table of commands stand for.
use Rattle.std.specs.Prelude.{fold}
use Rattle.clap.specs.Words.{App, Rule, new_rule, with_rule, with_subcommand}
use Rattle.pciplan_words.specs.CommandWords.{flag_rule, option_rule, path_rule, pool_rule, with_paths}
use Rattle.pciplan_words.specs.declared.commands.Argument.{Argument}
use Rattle.pciplan_words.specs.declared.commands.Argument.TheVariants.{Path, Word, Required, Flag, Optional}
use Rattle.pciplan_words.specs.declared.commands.Subcommand.{Subcommand}

abbrev pub argument_rule : Argument → Rule
argument_rule (Path name) = path_rule name.now
argument_rule (Word name) = option_rule name.now
argument_rule (Required name) = pool_rule name.now
argument_rule (Flag name) = flag_rule name.now
argument_rule (Optional name) = new_rule name.now

abbrev pub with_argument : App → Argument → App
with_argument app argument = with_rule app (argument_rule argument)

-- a subcommand with the two texts and its options
abbrev pub app_of_subcommand : Subcommand → App
app_of_subcommand s = fold with_argument (with_paths s.name.now) s.options.now

abbrev pub with_entry : App → Subcommand → App
with_entry app s = with_subcommand app (app_of_subcommand s).top
