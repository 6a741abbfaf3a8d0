use Rattle.std.proofs.Common.{ap, ◌∙◌}
use Rattle.pci_picture.specs.Boxes.{titled, titled_line}
use Rattle.pci_picture.proofs.Boxes.{bare_title, box_ok}
use Rattle.pci_picture.proofs.section.draw_fault.Goals as goal

pub returns : goal.returns
returns g c =
    box_ok c.add_box.result _ _ _ _
    (bare_title (titled c.args.at.x c.args.at.y c.args.at.width c.args.at.height c.args.class.now c.as_slice-lines.result.now)
    (ap titled_line c.as_slice-lines.ensures.value ∙ c.in_ok-title.ensures)) c.add_box.ensures.adds
