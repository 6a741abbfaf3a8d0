use Rattle.std.proofs.Common.{List, map, ap, option_map, sym, ◌∙◌}
use Rattle.clap.specs.Words.{Text, app_of, fault_of, found_of, is_simple_and_free, rows_of}
use Rattle.pciplan_words.proofs.CommandLines.{failed_by, subcommand_is}
use Rattle.pciplan_words.proofs.FurtherLines.{further_are_free, further_entered, further_fault, further_is, further_refused}
use Rattle.pciplan_words.proofs.further.further_given.Goals as goal

pub returns-in_err-matches : goal.returns-in_err-matches
returns-in_err-matches c =
    let command = c.in_ok-further_commands.field-0 in
    let words : List Text = map (λ w. w.now) c.args.words.now in
    let error = c.in_err-matches.field-0.0 in
    let same = further_fault command words c.in_ok-further_commands.ensures in
    let has = c.in_err-matches.ensures.kinds (ap is_simple_and_free c.in_ok-further_commands.ensures ∙ further_are_free) in
    failed_by c.from_residual-in_err-matches.result _ _ _ c.from_residual-in_err-matches.ensures.1
    (λ fault gives. further_refused words (fault_of (app_of command) words) error fault same has gives)

pub returns : goal.returns
returns c =
    let command = c.in_ok-further_commands.field-0 in
    let words : List Text = map (λ w. w.now) c.args.words.now in
    let name = c.in_ok-name.name.now in
    let rows = rows_of (found_of c.in_ok-name.found.now) in
    let taken = sym (further_fault command words c.in_ok-further_commands.ensures) ∙ c.in_ok-matches.ensures.kinds (ap is_simple_and_free c.in_ok-further_commands.ensures ∙ further_are_free) in
    let named = ap (option_map (λ p. p.0.now)) (sym c.in_ok-name.ensures.ok_part) ∙ c.subcommand.ensures.name in
    let kept = ap (option_map (λ p. rows_of (found_of p.1.now))) (sym c.in_ok-name.ensures.ok_part) ∙ c.subcommand.ensures.rows in
    let entered = sym (further_entered command words c.in_ok-matches.matches c.in_ok-further_commands.ensures c.in_ok-matches.ensures.matches)
    ∙ subcommand_is c.in_ok-matches.matches name rows named kept in
    rw c.ok_or-2.ensures.value (further_is words name rows c.further_of.result taken entered c.further_of.ensures)
