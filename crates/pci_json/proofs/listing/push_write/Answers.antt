use Rattle.std.proofs.lemmas.Result.{on_ok_weaker}
use Rattle.pci_json.proofs.listing.push_write.Goals as goal

pub returns : goal.returns
returns g c = on_ok_weaker c.hex-2.result (λ e. cc (e, c.word.ensures, c.offset_and_width.ensures.offset, c.offset_and_width.ensures.width, c.word-2.ensures, c.in_ok-text.ensures, c.in_ok-hex.ensures, c.value.ensures, c.in_ok-number.ensures, c.word-3.ensures)) c.hex-2.ensures
