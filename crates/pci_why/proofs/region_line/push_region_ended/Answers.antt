use Rattle.std.proofs.Common.{◌∙◌}
use Rattle.std.proofs.lemmas.List.{append_assoc}
use Rattle.std.proofs.lemmas.Result.{on_ok_weaker}
use Rattle.pci_why.proofs.region_line.push_region_ended.Goals as goal

pub returns : goal.returns
returns g c =
    on_ok_weaker c.push_place.result
    (λ last. last ∙ rw (c.part_name-part.ensures, c.in_ok-push_str-2.ensures.bytes, c.in_ok-push_str.ensures.bytes)
    (simp append_assoc))
    c.push_place.ensures
