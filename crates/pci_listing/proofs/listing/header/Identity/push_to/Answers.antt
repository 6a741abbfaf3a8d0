use Rattle.std.proofs.Common.{◌∙◌}
use Rattle.std.proofs.lemmas.List.{append_assoc}
use Rattle.std.proofs.lemmas.Result.{on_ok_weaker}
use Rattle.pci_listing.proofs.listing.header.Identity.push_to.Goals as goal

pub returns : goal.returns
returns g c =
    on_ok_weaker c.push_hex.result
    (λ last. last ∙ rw (c.from.ensures, c.in_ok-push_str-3.ensures.bytes, c.in_ok-push_word-2.ensures, c.in_ok-push_str-2.ensures.bytes, c.in_ok-push_word.ensures, c.in_ok-push_str.ensures.bytes)
    (simp append_assoc))
    c.push_hex.ensures
