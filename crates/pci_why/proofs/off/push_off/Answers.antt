use Rattle.std.proofs.Common.{◌++◌, ◌∙◌, ap, map}
use Rattle.std.specs.List.{flat_map}
use Rattle.std.specs.String.{string_bytes}
use Rattle.pci_spec.specs.Why.{off_line}
use Rattle.judge_spec.specs.Why.{range_off_line}
use Rattle.pci_claims.specs.Off.{off_part_line, off_value}
use Rattle.pci_claims.specs.Values.{told_value}
use Rattle.pci_why.proofs.OffLines.{lines_of_parts}
use Rattle.pci_why.proofs.off.push_off.Goals as goal

pub returns : goal.returns
returns g c = λ s tree.
    let line = flat_map (off_part_line off_line range_off_line) in
    c.in_ok-push_lines.ensures
    ∙ ap (λ off. string_bytes c.args.text.now ++ line (map off_value off)) c.deref.ensures.value
    ∙ ap (λ ps. string_bytes c.args.text.now ++ line ps) (c.in_ok-off.ensures.parts s tree)
    ∙ ap (λ t. string_bytes c.args.text.now ++ t) (lines_of_parts (told_value c.args.told.now) s s)
