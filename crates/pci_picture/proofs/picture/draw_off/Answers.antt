use Rattle.std.proofs.Common.{◌+◌, ap, subst, sym, take, ◌∙◌, arith}
use Rattle.pci_picture.specs.BoardLooks.{look_read}
use Rattle.pci_picture.specs.Canvases.{AddsSome}
use Rattle.pci_picture.specs.Drawings.{AreOffBoxes}
use Rattle.pci_picture.specs.OffRows.{top_of_off}
use Rattle.pci_picture.specs.Trees.{down}
use Rattle.pci_picture.proofs.Sections.{none_off, no_rows, row_more, all_rows, same_rows, top_of_some}
use Rattle.pci_picture.proofs.picture.draw_off.Goals as goal

pub returns-then-is_empty : goal.returns-then-is_empty
returns-then-is_empty g c =
    let look = look_read c.args.board.now in
    let site = c.args.site.now in
    record {
      drawn =
          same_rows look (down site.x 132) site.width site.y site.y c.as_slice-off.result.now c.args.board.now.map.off.items _ _ c.as_slice-off.ensures.value
          (none_off look (down site.x 132) site.width site.y c.as_slice-off.result.now c.args.canvas.now (sym c.is_empty.ensures ∙ c.if-is_empty.true));
      down = omega arith;
    }

pub loop-region-init : goal.loop-region-init
loop-region-init g c =
    let look = look_read c.args.board.now in
    let site = c.args.site.now in
    record {
      lower = omega (arith, c.saturating_add-y.ensures);
      rows =
          subst (λ y. AddsSome (AreOffBoxes look (down site.x 132) site.width y _ c.saturating_add-y.result) c.add_heading.new.self c.add_heading.new.self) c.saturating_add-y.ensures
          (no_rows look (down site.x 132) site.width c.saturating_add-y.result c.add_heading.new.self);
    }

pub loop-region-preserved : goal.loop-region-preserved
loop-region-preserved g c =
    let look = look_read c.args.board.now in
    let site = c.args.site.now in
    record {
      lower = omega (arith, c.loop-region.invariant.lower, c.saturating_add-y-in-loop-region.ensures);
      rows =
          subst (λ y. AddsSome (AreOffBoxes look (down site.x 132) site.width (down site.y 22) (take (c.loop-region.region-index + 1) c.as_slice-off.result.now) y) c.add_heading.new.self c.draw_off_row.new.canvas) (sym c.saturating_add-y-in-loop-region.ensures)
          (row_more look c.as_slice-off.result.now c.loop-region.region-index c.region-item.result (down site.x 132) c.loop-region.y site.width (down site.y 22)
          c.add_heading.new.self c.loop-region.canvas c.draw_off_row.new.canvas
          (omega arith) c.region-item.is c.loop-region.invariant.rows c.in_ok-draw_off_row.ensures.adds c.in_ok-draw_off_row.ensures.words);
    }

pub returns : goal.returns
returns g c =
    let look = look_read c.args.board.now in
    let site = c.args.site.now in
    let every = c.args.board.now.map.off.items in
    record {
      drawn =
          subst (λ y. AddsSome (AreOffBoxes look (down site.x 132) site.width y every c.loop-region.y) c.args.canvas.now c.loop-region.canvas)
          (sym (top_of_some site.y c.as_slice-off.result.now (sym c.is_empty.ensures ∙ c.if-is_empty.false)) ∙ ap (top_of_off site.y) c.as_slice-off.ensures.value)
          (all_rows look (down site.x 132) site.width (down site.y 22) c.loop-region.y c.as_slice-off.result.now every c.loop-region.region-index _ _ _ (omega arith)
          c.as_slice-off.ensures.value c.in_ok-add_heading.ensures.adds c.in_ok-add_heading.ensures.writes c.loop-region.invariant.rows);
      down = c.loop-region.invariant.lower;
    }
