use Rattle.std.proofs.Common.{sym, subst}
use Rattle.pci_spec.specs.Text.{Block}
use Rattle.pci_spec.specs.System.{function_of}
use Rattle.pci_faults.specs.OwnLines.{HasNoneBefore}
use Rattle.pci_faults.proofs.OfPlace.{decodes}
use Rattle.pci_faults.proofs.place.add_record.Goals as goal

pub returns-in-Err : goal.returns-in-Err
returns-in-Err g c =
    let b : Block = record { slot = c.block.inside.slot; title = c.block.inside.title; image = c.block.inside.image.0 } in
    let p : Block = record { slot = c.probe.inside.slot; title = c.probe.inside.title; image = c.probe.inside.image.0 } in
    let none : HasNoneBefore 4 (function_of b p) =
    subst (λ x. HasNoneBefore 4 (function_of x p)) (sym c.block.view_is) (subst (λ y. HasNoneBefore 4 (function_of c.args.block.now y)) (sym c.probe.view_is) c.requires) in
    absurd (decodes (function_of b p) c.in-Err.field-0 none c.in-Err.ensures.decoded)
