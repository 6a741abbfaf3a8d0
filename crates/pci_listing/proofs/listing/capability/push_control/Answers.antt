use Rattle.std.proofs.Common.{◌∙◌}
use Rattle.std.proofs.lemmas.List.{append_assoc}
use Rattle.std.proofs.lemmas.Result.{on_ok_weaker}
use Rattle.pci_listing.proofs.listing.capability.push_control.Goals as goal

pub returns : goal.returns
returns g c =
    on_ok_weaker c.push_flag-3.result
    (λ last. last ∙ rw (
      c.in_ok-push_str-7.ensures.bytes,
      c.in_ok-push_flag-2.ensures,
      c.in_ok-push_str-6.ensures.bytes,
      c.in_ok-push_str-5.ensures.bytes,
      c.in_ok-push_str-4.ensures.bytes,
      c.in_ok-push_str-3.ensures.bytes,
      c.in_ok-push_str-2.ensures.bytes,
      c.in_ok-push_flag.ensures,
      c.in_ok-push_str.ensures.bytes,
      c.vectors_text-capable.ensures,
      c.vectors_text-enabled.ensures,
    )
    (simp append_assoc))
    c.push_flag-3.ensures
