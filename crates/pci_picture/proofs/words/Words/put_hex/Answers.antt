use Rattle.std.proofs.Common.{◌++◌, ap, ◌∙◌}
use Rattle.std.proofs.lemmas.Result.{on_ok_weaker}
use Rattle.pci_picture.proofs.LowDigits.{lowest_put}
use Rattle.pci_picture.proofs.words.Words.put_hex.Goals as goal

pub returns : goal.returns
returns g c =
    on_ok_weaker c.put.result
    (λ put. put ∙ ap (λ l. c.args.self.now.bytes.items ++ l)
    (lowest_put c.hex_digits-all.result c.args.number c.args.digits c.min.result c.min.ensures c.hex_digits-all.ensures))
    c.put.ensures
