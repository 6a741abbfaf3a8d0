use Rattle.std.proofs.Common.{◌++◌, ◌∙◌, ap, codes}
use Rattle.std.specs.String.{string_bytes}
use Rattle.std.proofs.lemmas.List.{append_assoc}
use Rattle.std.proofs.lemmas.Result.{on_ok_weaker}
use Rattle.pci_spec.specs.Listing.{words}
use Rattle.judge_spec.specs.ToldRegion.{told_words}
use Rattle.pci_why.proofs.off.push_range.Goals as goal

pub returns : goal.returns
returns g c =
    let line = words (told_words (record { register = c.args.register; told = c.args.range.now })) in
    on_ok_weaker c.push_told.result
    (λ told. told ∙ ap (λ t. t ++ line) c.in_ok-push_str.ensures.bytes ∙ append_assoc (string_bytes c.args.text.now) (codes "off") line)
    c.push_told.ensures
