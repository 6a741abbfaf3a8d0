use Rattle.std.proofs.Common.{◌++◌, ◌∙◌, ap}
use Rattle.std.proofs.lemmas.Result.{on_ok_weaker}
use Rattle.std.specs.String.{string_bytes}
use Rattle.pci_listing.proofs.amount.push_count.Goals as goal

pub returns : goal.returns
returns g c =
    on_ok_weaker c.push_number.result
    (λ pushed. pushed ∙ ap (λ t. string_bytes c.args.text.now ++ t) c.amount_of-amount.ensures.text)
    c.push_number.ensures
