use Rattle.std.proofs.Common.{◌+◌, ◌-◌, ◌*◌, ◌^◌, min, [], ◌++◌, get_or, refl, length, drop, ap, arith, sym, ◌∙◌}
use Rattle.std.specs.String.{string_bytes}
use Rattle.std.proofs.lemmas.List.{append-nil, drop_all, get_or_default}
use Rattle.pci_picture.specs.Labels.{label_text}
use Rattle.pci_picture.specs.declared.legend.Mark.TheVariants.{Window}
use Rattle.pci_picture.specs.Legends.{last_begins, legend_boxes, legend_text, marks_of_legend, words_of_mark}
use Rattle.pci_picture.proofs.Boxes.{unchanged, then_draws}
use Rattle.pci_picture.proofs.Legends.{few_marks, mark_boxed, mark_passed, mark_written, room_of_mark}
use Rattle.pci_picture.proofs.legend.draw_legend.Goals as goal

pub loop-mark-init : goal.loop-mark-init
loop-mark-init g c = record { adds = unchanged c.args.canvas.now; draws = refl; low = omega arith; writes = refl; last = refl }

pub loop-mark-preserved : goal.loop-mark-preserved
loop-mark-preserved g c =
    let marks = marks_of_legend c.args.is_told in
    let i = c.loop-mark.mark-index in
    let left = c.loop-mark.x in
    let mark = get_or c.marks_of-mark-items.result.now i Window in
    let long = ap length c.marks_of-mark-items.ensures in
    let few = few_marks c.args.is_told in
    let at = ap (λ l. get_or l i Window) c.marks_of-mark-items.ensures ∙ get_or_default marks i Window mark (omega (arith, c.loop-mark-test.true, long)) in
    let low = c.loop-mark.invariant.low in
    let room = room_of_mark mark i left _ _ c.saturating_add-x.result low (omega (arith, c.loop-mark-test.true, long, few)) c.saturating_add.ensures
    (c.saturating_mul-room.ensures ∙ ap (λ l. min (length l * 7) (2 ^ 64 - 1)) c.words.ensures) c.saturating_add-x.ensures in
    record {
      adds = then_draws _ _ _ _ c.loop-mark.invariant.adds c.in_ok-draw_entry.ensures.adds;
      draws =
          ap (λ n. string_bytes c.draw_entry.new.canvas.boxes ++ legend_boxes c.args.y n (drop (i + 1) marks)) room.0
          ∙ mark_boxed marks c.args.y left i mark (string_bytes c.args.canvas.now.boxes) (string_bytes c.loop-mark.canvas.boxes) (string_bytes c.draw_entry.new.canvas.boxes)
          (legend_boxes c.args.y 16 marks) (omega (arith, c.loop-mark-test.true, long)) at c.loop-mark.invariant.draws c.in_ok-draw_entry.ensures.draws;
      low = room.1;
      writes =
          ap (λ n. string_bytes c.draw_entry.new.canvas.words ++ legend_text c.args.y n (drop (i + 1) marks)) room.0
          ∙ mark_written marks c.args.y left i mark (string_bytes c.args.canvas.now.words) (string_bytes c.loop-mark.canvas.words) (string_bytes c.draw_entry.new.canvas.words)
          (legend_text c.args.y 16 marks) (omega (arith, c.loop-mark-test.true, long)) at c.loop-mark.invariant.writes
          (c.in_ok-draw_entry.ensures.writes ∙ ap (λ n. string_bytes c.loop-mark.canvas.words ++ label_text n c.args.y [] (words_of_mark mark)) room.2);
      last =
          ap (λ n. last_begins left n (drop (i + 1) marks)) room.0 ∙ mark_passed marks left c.loop-mark.last i mark (omega (arith, c.loop-mark-test.true, long)) at
          ∙ c.loop-mark.invariant.last;
    }

pub returns-clause-draws : goal.returns-clause-draws
returns-clause-draws g c =
    let marks = marks_of_legend c.args.is_told in
    sym (ap (λ l. string_bytes c.loop-mark.canvas.boxes ++ legend_boxes c.args.y c.loop-mark.x l)
    (drop_all c.loop-mark.mark-index marks (omega (arith, c.loop-mark-test.false, ap length c.marks_of-mark-items.ensures)))
    ∙ append-nil (string_bytes c.loop-mark.canvas.boxes))
    ∙ c.loop-mark.invariant.draws

pub returns-clause-writes : goal.returns-clause-writes
returns-clause-writes g c =
    let marks = marks_of_legend c.args.is_told in
    sym (ap (λ l. string_bytes c.loop-mark.canvas.words ++ legend_text c.args.y c.loop-mark.x l)
    (drop_all c.loop-mark.mark-index marks (omega (arith, c.loop-mark-test.false, ap length c.marks_of-mark-items.ensures)))
    ∙ append-nil (string_bytes c.loop-mark.canvas.words))
    ∙ c.loop-mark.invariant.writes

pub returns-clause-last : goal.returns-clause-last
returns-clause-last g c =
    let marks = marks_of_legend c.args.is_told in
    sym (ap (last_begins c.loop-mark.last c.loop-mark.x)
    (drop_all c.loop-mark.mark-index marks (omega (arith, c.loop-mark-test.false, ap length c.marks_of-mark-items.ensures))))
    ∙ c.loop-mark.invariant.last
