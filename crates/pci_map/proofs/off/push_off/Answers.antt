use Rattle.std.proofs.Common.{◌≡◌, ◌++◌, ◌∙◌, ap, codes, map}
use Rattle.std.specs.List.{flat_map}
use Rattle.std.specs.String.{string_bytes}
use Rattle.judge_spec.specs.MapText.{map_off_line, map_told_line}
use Rattle.pci_claims.specs.Off.{off_value, off_part_line, all_off_parts}
use Rattle.pci_claims.specs.Values.{told_value}
use Rattle.pci_map.specs.Off.{section}
use Rattle.pci_map.proofs.Offs.{off_of_parts}
use Rattle.pci_map.proofs.off.push_off.Goals as goal

pub returns : goal.returns
returns g c = λ s tree.
    let told = told_value c.args.mapped.now.told in
    let lines = flat_map (off_part_line map_off_line (map_told_line 1)) in
    let pushed : string_bytes c.push_lines.new.text ≡ lines (map off_value c.deref.result.now) = c.in_ok-push_lines.ensures ∙ ap (λ t. t ++ lines (map off_value c.deref.result.now)) c.new-below.ensures.bytes in
    let below : c.as_str.result.now ≡ lines (all_off_parts told s) = c.as_str.ensures.value ∙ pushed ∙ ap (λ off. lines (map off_value off)) c.deref.ensures.value ∙ ap lines (c.in_ok-off.ensures.parts s tree) in
    c.in_ok-push_section.ensures
    ∙ ap (λ t. string_bytes c.args.text.now ++ section (codes "off") t) below
    ∙ ap (λ t. string_bytes c.args.text.now ++ t) (off_of_parts told s)
