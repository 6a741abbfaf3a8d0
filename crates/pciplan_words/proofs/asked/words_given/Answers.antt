use Rattle.std.proofs.Common.{List, map, ap, option_map, sym, ◌∙◌}
use Rattle.clap.specs.Words.{Text, app_of, fault_of, found_of, is_simple_and_free, rows_of}
use Rattle.pciplan_words.proofs.CommandLines.{commands_are_free, entered_is, failed_by, fault_is, given_is, refused_words, subcommand_is}
use Rattle.pciplan_words.proofs.asked.words_given.Goals as goal

pub returns-in_err-matches : goal.returns-in_err-matches
returns-in_err-matches c =
    let command = c.in_ok-command.field-0 in
    let words : List Text = map (λ w. w.now) c.args.words.now in
    let error = c.in_err-matches.field-0.0 in
    let same = fault_is command words c.in_ok-command.ensures in
    let has = c.in_err-matches.ensures.kinds (ap is_simple_and_free c.in_ok-command.ensures ∙ commands_are_free) in
    failed_by c.from_residual-in_err-matches.result _ _ _ c.from_residual-in_err-matches.ensures.1
    (λ fault gives. refused_words words (fault_of (app_of command) words) error fault same has gives)

pub returns : goal.returns
returns c =
    let command = c.in_ok-command.field-0 in
    let words : List Text = map (λ w. w.now) c.args.words.now in
    let name = c.in_ok-name.name.now in
    let rows = rows_of (found_of c.in_ok-name.found.now) in
    let taken = sym (fault_is command words c.in_ok-command.ensures) ∙ c.in_ok-matches.ensures.kinds (ap is_simple_and_free c.in_ok-command.ensures ∙ commands_are_free) in
    let named = ap (option_map (λ p. p.0.now)) (sym c.in_ok-name.ensures.ok_part) ∙ c.subcommand.ensures.name in
    let kept = ap (option_map (λ p. rows_of (found_of p.1.now))) (sym c.in_ok-name.ensures.ok_part) ∙ c.subcommand.ensures.rows in
    let entered = sym (entered_is command words c.in_ok-matches.matches c.in_ok-command.ensures c.in_ok-matches.ensures.matches)
    ∙ subcommand_is c.in_ok-matches.matches name rows named kept in
    rw c.ok_or-2.ensures.value (given_is words name rows c.given_of.result taken entered c.given_of.ensures)
