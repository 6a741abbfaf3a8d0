use Rattle.std.proofs.Common.{ap, ◌∙◌, get_or, arith}
use Rattle.pci_picture.specs.BoardLooks.{look_read}
use Rattle.pci_picture.proofs.Framed.{none_framed, box_more, all_framed}
use Rattle.pci_picture.proofs.section.draw_regions.Goals as goal

pub loop-placed-init : goal.loop-placed-init
loop-placed-init g c = none_framed (look_read c.args.board.now) c.args.plan.now.heights.runs.items c.args.plan.now.heights.bottom c.args.canvas.now

pub loop-placed-preserved : goal.loop-placed-preserved
loop-placed-preserved g c =
    box_more (look_read c.args.board.now) c.args.plan.now.placed.items c.loop-placed.placed-index c.placed-item.result c.args.plan.now.heights.runs.items c.args.plan.now.heights.bottom
    c.frame_of-at.result.x c.frame_of-at.result.y c.frame_of-at.result.width c.frame_of-at.result.height c.args.canvas.now c.loop-placed.canvas c.draw_box.new.canvas c.write_region.new.canvas
    (omega arith) (c.placed-item.is ∙ ap (λ l. get_or l c.loop-placed.placed-index c.placed-item.result) c.deref-placed-items.ensures.value)
    c.loop-placed.invariant c.frame_of-at.ensures.framed c.frame_of-at.ensures.left c.frame_of-at.ensures.width c.in_ok-draw_box.ensures.adds c.in_ok-draw_box.ensures.writes c.in_ok-write_region.ensures.adds c.in_ok-write_region.ensures.words

pub returns : goal.returns
returns g c =
    all_framed (look_read c.args.board.now) c.args.plan.now.placed.items c.loop-placed.placed-index c.args.plan.now.heights.runs.items c.args.plan.now.heights.bottom _ _
    (omega arith) c.loop-placed.invariant
