use Rattle.std.proofs.Common.{◌==◌, not, length, ap, sym, ◌∙◌}
use Rattle.pci_picture.specs.Keyed.{has_key}
use Rattle.pci_picture.specs.declared.tellings.Index.{Index}
use Rattle.pci_picture.proofs.Told.{some_filtered}
use Rattle.pci_picture.proofs.tellings.is_moved_here.Goals as goal

pub returns-in-Some : goal.returns-in-Some
returns-in-Some c sorted =
    let keys = c.args.keys.now in
    let test = λ (one : Index). one.key == c.in-Some.key in
    ap not (c.is_empty.ensures ∙ ap (λ l. length l == 0) (c.with_key.ensures sorted)) ∙ some_filtered test keys
    ∙ ap (has_key keys) (sym c.in-Some.is ∙ c.last.ensures)
