use Rattle.std.proofs.lemmas.Result.{on_ok_weaker}
use Rattle.pci_json.specs.Lines.{behind_words}
use Rattle.pci_json.proofs.Cuts.{behind_there, behind_here}
use Rattle.pci_json.proofs.listing.push_buses.Goals as goal

pub returns : goal.returns
returns g c =
    let line = c.args.line.now in
    on_ok_weaker c.text-3.result
    (λ e. cc (
      e,
      c.split_second.ensures.first,
      c.split_second.ensures.rest,
      c.split_word.ensures.first,
      c.split_word.ensures.rest,
      behind_here (behind_words 2 line),
      behind_there 2 1 line,
      behind_here (behind_words 3 line),
      c.in_ok-text.ensures,
      c.in_ok-text-2.ensures,
      c.word.ensures,
    ))
    c.text-3.ensures
