use Rattle.std.proofs.Common.{ap, ◌∙◌}
use Rattle.std.specs.String.{string_bytes}
use Rattle.pci_claims.specs.Values.{code_given_value, told_value}
use Rattle.pci_map.specs.Asides.{AsideTexts}
use Rattle.pci_map.proofs.Tolds.{asides_below}
use Rattle.pci_map.proofs.asides.push_asides.Goals as goal

pub returns : goal.returns
returns g c = λ s of.
    asides_below (told_value c.args.mapped.now.told) (code_given_value c.args.mapped.now.given) c.args.mapped.now.outline.now.roots s (string_bytes c.new.result) c.push_all.new.asides.outside c.as_str.result.now (string_bytes c.new-2.result)
    c.push_all.new.asides.unreached c.as_str-2.result.now (string_bytes c.args.text.now) (string_bytes c.push_section.new.text) (string_bytes c.push_section-2.new.text) c.new.ensures.bytes
    c.new-2.ensures.bytes (c.in_ok-push_all.ensures s of) (c.as_str.ensures.value ∙ ap (λ (a : AsideTexts). a.outside) c.asides.view_is)
    (c.as_str-2.ensures.value ∙ ap (λ (a : AsideTexts). a.unreached) c.asides.view_is) c.in_ok-push_section.ensures c.in_ok-push_section-2.ensures
