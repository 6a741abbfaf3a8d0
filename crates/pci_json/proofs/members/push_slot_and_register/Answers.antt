use Rattle.std.proofs.Common.{◌+◌}
use Rattle.std.proofs.lemmas.Result.{on_ok_weaker}
use Rattle.pci_json.specs.Lines.{behind_words}
use Rattle.pci_json.proofs.Cuts.{behind_there, behind_here}
use Rattle.pci_json.proofs.members.push_slot_and_register.Goals as goal

pub returns : goal.returns
returns g c =
    let line = c.args.line.now in
    on_ok_weaker c.push_register_or_line.result
    (λ e. cc (
      e,
      c.behind.ensures,
      c.split_word.ensures.first,
      c.split_word.ensures.rest,
      behind_here (behind_words c.args.n line),
      behind_there c.args.n 1 line,
      behind_here (behind_words (c.args.n + 1) line),
      c.in_ok-text.ensures,
      c.word.ensures,
    ))
    c.push_register_or_line.ensures
