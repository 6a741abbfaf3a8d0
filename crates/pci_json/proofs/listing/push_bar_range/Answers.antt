use Rattle.std.proofs.lemmas.Result.{on_ok_weaker}
use Rattle.pci_json.proofs.listing.push_bar_range.Goals as goal

pub returns : goal.returns
returns g c = on_ok_weaker c.push_range.result (λ e. cc (e, c.is_word.ensures, c.in_ok-boolean.ensures, c.bar_range_place.ensures, c.word.ensures)) c.push_range.ensures
