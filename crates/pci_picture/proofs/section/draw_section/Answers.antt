use Rattle.std.proofs.Common.{◌+◌, [], refl}
use Rattle.pci_picture.specs.BoardLooks.{look_read}
use Rattle.pci_picture.proofs.Boxes.{then_draws, up_to, writes_both}
use Rattle.pci_picture.proofs.Framed.{adds_section}
use Rattle.pci_picture.proofs.section.draw_section.Goals as goal

pub returns : goal.returns
returns g c =
    let heights = c.in_ok-plan.plan.heights in
    let placed = c.in_ok-plan.plan.placed.items in
    let look = look_read c.args.board.now in
    record {
      drawn =
          adds_section look c.args.site.now c.args.members.now placed heights.runs.items (c.args.site.now.y + 22) heights.bottom c.end_of.result
          c.args.canvas.now c.draw_axis.new.canvas c.draw_regions.new.canvas c.draw_tellings.new.canvas
          (then_draws _ _ _ _ c.in_ok-write_heading.ensures.adds c.in_ok-draw_axis.ensures.adds)
          (writes_both [] [] c.args.canvas.now c.write_heading.new.canvas c.draw_axis.new.canvas c.in_ok-write_heading.ensures.writes c.in_ok-draw_axis.ensures.writes)
          c.in_ok-draw_regions.ensures c.in_ok-draw_tellings.ensures
          c.in_ok-plan.ensures.placed c.end_of.ensures.below c.end_of.ensures.exact refl c.in_ok-plan.ensures.planned (c.in_ok-plan.ensures.looks look) c.in_ok-plan.ensures.beside;
      down = up_to c.args.site.now.y heights.bottom c.end_of.result c.in_ok-plan.ensures.down c.end_of.ensures.below;
    }
