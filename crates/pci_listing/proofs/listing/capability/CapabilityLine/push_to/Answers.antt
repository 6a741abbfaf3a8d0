use Rattle.std.proofs.Common.{◌∙◌}
use Rattle.std.proofs.lemmas.List.{append_assoc}
use Rattle.std.proofs.lemmas.Result.{on_ok_weaker}
use Rattle.pci_listing.proofs.listing.capability.CapabilityLine.push_to.Goals as goal

pub returns-in_ok-push_word-in-Message : goal.returns-in_ok-push_word-in-Message
returns-in_ok-push_word-in-Message g c =
    on_ok_weaker c.end_line.result
    (λ last. last ∙ rw (
      c.in-Message.is,
      c.in_ok-push_word-in-Message.ensures,
      c.in_ok-push_str-in-Message-2.ensures.bytes,
      c.in_ok-push_hex-in-Message.ensures,
      c.in_ok-push_str-in-Message.ensures.bytes,
      c.in_ok-push_control-in-Message.ensures,
      c.in_ok-push_place-in-Message.ensures,
    )
    (simp append_assoc))
    c.end_line.ensures
