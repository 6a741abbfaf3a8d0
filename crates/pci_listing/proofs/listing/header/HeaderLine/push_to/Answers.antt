use Rattle.std.proofs.Common.{◌∙◌}
use Rattle.std.proofs.lemmas.List.{append_assoc}
use Rattle.std.proofs.lemmas.Result.{on_ok_weaker}
use Rattle.pci_listing.proofs.listing.header.HeaderLine.push_to.Goals as goal

pub returns : goal.returns
returns g c =
    on_ok_weaker c.end_line.result
    (λ last. last ∙ rw (
      c.in_ok-push_word-2.ensures,
      c.in_ok-push_str-4.ensures.bytes,
      c.in_ok-push_word.ensures,
      c.in_ok-push_str-3.ensures.bytes,
      c.in_ok-push_to.ensures,
      c.in_ok-push_str-2.ensures.bytes,
      c.in_ok-push_decimal.ensures,
      c.number.ensures.number,
      c.in_ok-push_str.ensures.bytes,
      c.in_ok-push_slot.ensures,
    )
    (simp append_assoc))
    c.end_line.ensures
