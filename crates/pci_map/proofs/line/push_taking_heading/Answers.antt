use Rattle.std.proofs.Common.{ℕ, List, [], ◌∷◌, ◌++◌, append_assoc, ap, codes, ◌∙◌}
use Rattle.std.specs.String.{string_bytes}
use Rattle.pci_spec.specs.Text.{slot_text}
use Rattle.pci_map.proofs.line.push_taking_heading.Goals as goal

pub returns : goal.returns
returns g c =
    let old = string_bytes c.args.text.now in
    let head : List ℕ = codes "  unclaimed " in
    let slot = slot_text c.args.slot in
    let end : List ℕ = 10 ∷ [] in
    c.in_ok-push_str-2.ensures.bytes ∙ ap (λ t. t ++ end) (c.in_ok-push_slot.ensures ∙ ap (λ t. t ++ slot) c.in_ok-push_str.ensures.bytes) ∙ append_assoc (old ++ head) slot end ∙ append_assoc old head (slot ++ end)
