use Rattle.std.proofs.Common.{[], ◌++◌, ap, ◌∙◌}
use Rattle.std.specs.String.{string_bytes}
use Rattle.std.proofs.lemmas.Result.{on_ok_weaker}
use Rattle.pci_picture.specs.Boxes.{titled}
use Rattle.pci_picture.specs.Elements.{box_text}
use Rattle.pci_picture.proofs.Boxes.{bare_title, box_ok}
use Rattle.pci_picture.proofs.Titles.{slot_title}
use Rattle.pci_picture.proofs.tree.draw_function.Goals as goal

pub returns-clause-adds : goal.returns-clause-adds
returns-clause-adds g c =
    box_ok c.add_box.result [] _ _ _
    (bare_title (titled c.args.x c.args.y 8 9 _ c.args.function.now.slot.now) (slot_title c.args.function.now.slot.now c.args.function.now.is_slot)) c.add_box.ensures.adds

pub returns-clause-draws : goal.returns-clause-draws
returns-clause-draws g c =
    on_ok_weaker c.add_box.result
    (λ draws. draws
    ∙ ap (λ k. string_bytes c.args.canvas.now.boxes ++ box_text c.args.x c.args.y 8 9 k [] c.args.function.now.slot.now) c.box_class.ensures)
    c.add_box.ensures.draws
