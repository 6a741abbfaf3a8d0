use Rattle.std.proofs.Common.{[], ◌++◌, ap, ap₂, ◌∙◌}
use Rattle.std.specs.String.{string_bytes}
use Rattle.std.proofs.lemmas.Result.{on_ok_weaker}
use Rattle.pci_picture.specs.Boxes.{titled, titled_line}
use Rattle.pci_picture.specs.Elements.{box_text}
use Rattle.pci_picture.specs.Labels.{label_text}
use Rattle.pci_picture.specs.Legends.{class_of_mark, title_of_mark, words_of_mark}
use Rattle.pci_picture.proofs.Boxes.{adds_same, bare_title, then_ok}
use Rattle.pci_picture.proofs.legend.draw_entry.Goals as goal

pub returns-clause-adds : goal.returns-clause-adds
returns-clause-adds g c =
    then_ok c.add_words.result [] _ _ _
    (adds_same [] _ _ _
    (bare_title (titled c.args.x c.saturating_sub.result 16 11 c.as_bytes.result.now c.as_bytes-title.result.now)
    (ap titled_line c.as_bytes-title.ensures.value ∙ c.title-text.ensures.bare)) c.in_ok-add_box.ensures.adds) c.add_words.ensures.adds

pub returns-clause-writes : goal.returns-clause-writes
returns-clause-writes g c =
    on_ok_weaker c.add_words.result
    (λ writes. writes
    ∙ ap₂ (λ l w. l ++ label_text c.saturating_add.result c.args.y [] w) c.in_ok-add_box.ensures.writes (c.as_bytes-2.ensures.value ∙ c.words.ensures)
    ∙ ap (λ n. string_bytes c.args.canvas.now.words ++ label_text n c.args.y [] (words_of_mark c.args.mark)) c.saturating_add.ensures)
    c.add_words.ensures.writes

pub returns-clause-draws : goal.returns-clause-draws
returns-clause-draws g c =
    let boxes = string_bytes c.args.canvas.now.boxes in
    on_ok_weaker c.add_words.result
    (λ same. same ∙ c.in_ok-add_box.ensures.draws
    ∙ ap₂ (λ k t. boxes ++ box_text c.args.x c.saturating_sub.result 16 11 k [] t) (c.as_bytes.ensures.value ∙ c.class.ensures)
    (c.as_bytes-title.ensures.value ∙ c.title-text.ensures.told)
    ∙ ap (λ n. boxes ++ box_text c.args.x n 16 11 (class_of_mark c.args.mark) [] (title_of_mark c.args.mark)) c.saturating_sub.ensures)
    c.add_words.ensures.draws
