use Rattle.std.proofs.Common.{◌∙◌}
use Rattle.std.proofs.lemmas.List.{append_assoc}
use Rattle.std.proofs.lemmas.Result.{on_ok_weaker}
use Rattle.pci_why.proofs.legacy.push_fixed_line.Goals as goal

pub returns : goal.returns
returns g c = on_ok_weaker c.end_line.result
    (λ last. last ∙ rw (
      c.in_ok-push_str-6.ensures.bytes,
      c.in_ok-push_str-5.ensures.bytes,
      c.in_ok-push_byte.ensures,
      c.in_ok-push_str-4.ensures.bytes,
      c.in_ok-push_slot.ensures,
      c.in_ok-push_str-3.ensures.bytes,
      c.in_ok-push_str-2.ensures.bytes,
      c.in_ok-push_str.ensures.bytes,
    ) (simp append_assoc))
    c.end_line.ensures
