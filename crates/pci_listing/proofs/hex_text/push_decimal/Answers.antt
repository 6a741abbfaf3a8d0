use Rattle.std.proofs.Common.{◌++◌, ◌∙◌, ap}
use Rattle.std.specs.String.{string_bytes}
use Rattle.std.proofs.lemmas.Result.{on_ok_weaker}
use Rattle.pci_listing.proofs.HexPushes.{decimal_small}
use Rattle.pci_listing.proofs.hex_text.push_decimal.Goals as goal

pub returns : goal.returns
returns g c =
    on_ok_weaker c.push_digit.result
    (λ pushed. pushed ∙ ap (λ t. string_bytes c.args.text.now ++ t) (decimal_small c.args.number c.requires))
    c.push_digit.ensures
