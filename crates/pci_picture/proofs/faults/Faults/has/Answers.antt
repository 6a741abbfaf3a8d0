use Rattle.std.proofs.Common.{◌==◌, ap, rules, tests, ◌∙◌}
use Rattle.std.specs.List.{list_any, slice_get}
use Rattle.std.proofs.lemmas.Iterator.{YieldsList-from_slice}
use Rattle.std.proofs.lemmas.Iterator.Search.{any_from_yields_List}
use Rattle.pci_picture.specs.Marks.{has_one_of}
use Rattle.pci_picture.specs.declared.faults.Naming.{Naming}
use Rattle.pci_picture.proofs.Marks.{any_filtered}
use Rattle.pci_picture.proofs.faults.Faults.has.Goals as goal

pub returns : goal.returns
returns g c =
    let faults = c.args.self.now.faults.items in
    let test = λ (naming : Naming). has_one_of c.args.one c.args.other (slice_get faults naming.fault) in
    any_from_yields_List test c.any.new.self _ c.any.result c.any.ensures.ran (YieldsList-from_slice c.of.result.now c.iter.ensures.rest) (λ x b q k. search (rules, tests))
    ∙ ap (list_any test) c.of.ensures
    ∙ any_filtered test (λ naming. naming.key == c.args.key) c.args.self.now.namings.items
