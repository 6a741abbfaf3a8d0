use Rattle.std.proofs.Common.{[], ◌≡◌, ◌++◌, ◌∙◌, ap, ap₂, ◌+◌, ◌-◌, ◌*◌, ◌^◌, length, arith}
use Rattle.std.specs.Prelude.{codes, min}
use Rattle.std.specs.String.{string_bytes}
use Rattle.std.proofs.lemmas.Result.{on_ok_weaker}
use Rattle.pci_picture.specs.Elements.{box_text}
use Rattle.pci_picture.specs.Labels.{label_text}
use Rattle.pci_picture.specs.Roots.{listed_function}
use Rattle.pci_picture.specs.Rows.{TreeRow}
use Rattle.pci_picture.specs.Trees.{class_of_row, class_of_tree_box}
use Rattle.pci_picture.proofs.Boxes.{then_ok, then_draws}
use Rattle.pci_picture.proofs.Rows.{cut_off, row_written}
use Rattle.pci_picture.proofs.tree.draw_row.Goals as goal

pub returns-clause-adds : goal.returns-clause-adds
returns-clause-adds g c =
    then_ok c.add_words.result [] _ _ _
    (then_draws [] _ _ _ c.in_ok-draw_function.ensures.adds c.in_ok-add_cut.ensures.adds)
    c.add_words.ensures.adds

pub returns-clause-row : goal.returns-clause-row
returns-clause-row g c own =
    let row : TreeRow = record {
      class = c.row_class.result.now;
      words = c.in_ok-words.words.bytes.items;
      beside = c.in_ok-badges.badges.bytes.items;
      left = 16 + 14 * c.min.result + 14;
      base = c.saturating_add-y.result;
    } in
    let wide : c.saturating_mul-taken.result ≡ min (length row.beside * 7) (2 ^ 64 - 1) =
    c.saturating_mul-taken.ensures ∙ ap (λ n. min (n * 7) (2 ^ 64 - 1)) (c.len.ensures ∙ c.in_ok-badges.badges.bytes.ok.0) in
    on_ok_weaker c.add_words.result
    (λ writes. record {
      row = row;
      stands = record {
        says = c.in_ok-words.ensures own;
        shows = c.in_ok-badges.ensures;
        left_is = omega (arith, c.min.ensures);
        base_is = c.saturating_add-y.ensures;
        class_is = c.row_class.ensures ∙ ap (λ l. class_of_row l c.args.function.now.is_on) c.as_slice.ensures.value;
      };
      writes =
          row_written row (string_bytes c.args.canvas.now.words) (string_bytes c.draw_function.new.canvas.words) (string_bytes c.add_cut.new.self.words) (string_bytes c.add_words.new.self.words)
          c.saturating_sub-room.result c.saturating_sub-2.result c.in_ok-draw_function.ensures.writes c.in_ok-add_cut.ensures.writes
          (writes ∙ ap (λ l. string_bytes c.add_cut.new.self.words ++ label_text c.saturating_sub-2.result c.saturating_add-y.result (codes "alarm bold") l) c.as_slice-2.ensures.value)
          (c.saturating_sub-room.ensures ∙ ap (λ n. n - c.saturating_mul-taken.result) c.saturating_sub.ensures ∙ ap (λ n. 380 - (16 + 14 * c.min.result) - n) wide
          ∙ cut_off (380 - (16 + 14 * c.min.result)) (length row.beside * 7) (omega arith) ∙ omega arith)
          (c.saturating_sub-2.ensures ∙ ap (λ n. 400 - n) wide ∙ cut_off 400 (length row.beside * 7) (omega arith));
    })
    c.add_words.ensures.writes

pub returns-clause-draws : goal.returns-clause-draws
returns-clause-draws g c =
    let boxes = string_bytes c.args.canvas.now.boxes in
    let function = c.args.function.now in
    on_ok_weaker c.add_words.result
    (λ same. same ∙ c.in_ok-add_cut.ensures.draws ∙ c.in_ok-draw_function.ensures.draws
    ∙ ap₂ (λ m n. boxes ++ box_text (16 + 14 * m) n 8 9 (class_of_tree_box (listed_function function)) [] function.slot.now) c.min.ensures c.saturating_add.ensures)
    c.add_words.ensures.draws
