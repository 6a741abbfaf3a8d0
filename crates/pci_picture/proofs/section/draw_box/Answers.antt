use Rattle.std.proofs.Common.{ap, ◌∙◌}
use Rattle.std.proofs.lemmas.Result.{on_ok_weaker}
use Rattle.pci_picture.specs.Boxes.{titled, titled_line}
use Rattle.pci_picture.specs.BoardLooks.{look_read}
use Rattle.pci_picture.proofs.Boxes.{one_box}
use Rattle.pci_picture.proofs.section.draw_box.Goals as goal

pub returns-clause-adds : goal.returns-clause-adds
returns-clause-adds g c =
    let at = c.args.at in
    let region = c.args.placed.now.region in
    let look = look_read c.args.board.now in
    on_ok_weaker c.add_box.result
    (one_box (titled at.x at.y at.width at.height c.as_bytes.result.now c.as_slice-lines.result.now) (look.class c.args.placed.now.is_lost region.line.now)
    (look.said region.line.now) region.line.now _ _
    (ap titled_line c.as_slice-lines.ensures.value ∙ c.in_ok-title.ensures.line)
    (c.as_bytes.ensures.value ∙ c.class_of-class.ensures)
    (c.as_slice-lines.ensures.value ∙ c.in_ok-title.ensures.said))
    c.add_box.ensures.adds
