use Rattle.std.proofs.Common.{rules, ◌≡◌, false}
use Rattle.clap.specs.Words.{app_of}
use Rattle.clap.specs.declared.builder.command.Command.TheViews.{out-Command}
use Rattle.pciplan_words.specs.CommandWords.{program}
use Rattle.pciplan_words.specs.FurtherWords.{explaining, looking}
use Rattle.pciplan_words.proofs.CommandLines.{with_sub}
use Rattle.pciplan_words.proofs.FurtherLines.{last_sub}
use Rattle.pciplan_words.proofs.commands.further_commands.Goals as goal

pub returns : goal.returns
returns c =
    let here_app : app_of c.in_ok-here.here ≡ looking = search rules in
    let here_local : (out-Command c.in_ok-here.here).has_globals ≡ false = search rules in
    let explain_app : app_of c.in_ok-explain.explain ≡ explaining = search rules in
    let explain_local : (out-Command c.in_ok-explain.explain).has_globals ≡ false = search rules in
    let program_app : app_of c.subcommand_required-program.result ≡ program = search rules in
    let first = with_sub c.in_ok-subcommand.ensures program_app here_app here_local in
    let second = with_sub c.in_ok-subcommand-2.ensures first explain_app explain_local in
    last_sub _ _ c.subcommand-3.result c.subcommand-3.ensures second c.new-version.ensures.app c.new-version.ensures.local
