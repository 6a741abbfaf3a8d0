use Rattle.std.proofs.Common.{[], max, ap, ap₂, ◌∙◌, length, sym}
use Rattle.std.specs.String.{string_bytes}
use Rattle.std.proofs.lemmas.List.{length-map}
use Rattle.pci_picture.specs.BoardLooks.{look_read}
use Rattle.pci_picture.specs.Roots.{listed_functions, listed_function}
use Rattle.pci_picture.specs.Trees.{down}
use Rattle.pci_picture.specs.Counts.{count_of_regions, counts_text}
use Rattle.pci_picture.specs.Legends.{legend_boxes, marks_of_legend}
use Rattle.pci_picture.specs.Maps.{kept_regions}
use Rattle.pci_picture.specs.Said.{faults_said}
use Rattle.pci_picture.proofs.Boxes.{then_draws, up_to}
use Rattle.pci_picture.proofs.Looks.{looks_told}
use Rattle.pci_picture.proofs.Pictured.{drawn_by_roots, front_told, has_above, has_front, top_told}
use Rattle.pci_picture.proofs.Sections.{whole_picture}
use Rattle.pci_picture.proofs.picture.picture_of.Goals as goal

pub draw_sections-requires : goal.draw_sections-requires
draw_sections-requires g c = c.in_ok-board.ensures.chained

pub returns : goal.returns
returns g c =
    let board = c.in_ok-board.board in
    let functions = listed_functions board.functions.items in
    let above =
    has_above functions c.has_told-is_told.result c.args.texts.now.faults.now board.faults _ _ c.in_ok-tree_end.tree_end c.new-canvas.result c.write_counts.new.canvas c.draw_legend.new.canvas c.write_faults.new.canvas c.draw_tree.new.canvas
    c.in_ok-board.ensures.lines c.in_ok-board.ensures.badges c.in_ok-write_faults.ensures.below c.in_ok-write_faults.ensures.high c.saturating_add-top.ensures
    c.new-canvas.ensures.empty c.in_ok-write_counts.ensures.writes c.in_ok-legend.ensures.writes c.in_ok-write_faults.ensures.writes c.in_ok-tree_end.ensures.tree in
    let start =
    front_told (length board.functions.items) (count_of_regions (kept_regions board.map)) (length board.faults.faults.items) (length functions)
    (length (faults_said c.args.texts.now.faults.now)) (legend_boxes 66 16 (marks_of_legend c.has_told-is_told.result)) (string_bytes c.draw_tree.new.canvas.boxes)
    (sym (length-map board.functions.items listed_function))
    (sym (length-map board.faults.faults.items _) ∙ ap length c.in_ok-board.ensures.lines)
    (has_front (counts_text (length board.functions.items) (count_of_regions (kept_regions board.map)) (length board.faults.faults.items))
    (legend_boxes 66 16 (marks_of_legend c.has_told-is_told.result)) c.new-canvas.result c.write_counts.new.canvas c.draw_legend.new.canvas c.write_faults.new.canvas c.draw_tree.new.canvas
    c.new-canvas.ensures.blank c.in_ok-write_counts.ensures.draws c.in_ok-legend.ensures.draws c.in_ok-write_faults.ensures.adds c.in_ok-tree_end.ensures.adds) in
    let wide =
    c.max-right.ensures
    ∙ ap₂ max (c.saturating_add.ensures ∙ ap (λ l. down l c.first_site-site.result.width) c.saturating_add-right.ensures) c.saturating_add-2.ensures in
    let whole =
    whole_picture (look_read board) c.first_site-site.result functions c.args.texts.now.map.now c.args.texts.now.faults.now board.map c.new-canvas.result _ _ _ c.has_told-is_told.result
    c.in_ok-y.y c.in_ok-end.end c.in_ok-tree_end.tree_end _ c.bottom_of-bottom.result c.in_ok-legend.legend c.finish.result (λ text. string_bytes text) c.has_told-is_told.ensures above start
    (looks_told board c.args.texts.now.faults.now c.in_ok-board.ensures.faults c.in_ok-board.ensures.said c.in_ok-board.ensures.lines) c.first_site-site.ensures.room c.first_site-site.ensures.columns
    (c.first_site-site.ensures.y ∙ top_told c.args.texts.now.faults.now board.faults _ _ c.in_ok-board.ensures.lines c.in_ok-write_faults.ensures.below c.in_ok-write_faults.ensures.high c.saturating_add-top.ensures)
    c.in_ok-board.ensures.map (up_to c.in_ok-y.y c.in_ok-end.end c.bottom_of-bottom.result c.in_ok-end.ensures.down c.bottom_of-bottom.ensures.least) c.bottom_of-bottom.ensures.exact wide c.in_ok-legend.ensures.last c.new-canvas.ensures.drawn
    (then_draws [] _ _ _ (then_draws [] _ _ _ (then_draws [] _ _ _ c.in_ok-write_counts.ensures.adds c.in_ok-legend.ensures.adds) c.in_ok-write_faults.ensures.adds) c.in_ok-tree_end.ensures.adds)
    c.in_ok-y.ensures.drawn c.in_ok-end.ensures.drawn c.finish.ensures.drawn in
    record {
      closed = c.finish.ensures.closed;
      drawn =
          drawn_by_roots functions c.args.texts.now.show.now c.args.texts.now.titles.now c.args.texts.now.map.now c.args.texts.now.faults.now c.finish.result (λ text. string_bytes text)
          c.in_ok-board.ensures.show whole;
    }
