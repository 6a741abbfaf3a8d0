use Rattle.std.proofs.Common.{◌≡◌, ◌==◌, false, length, ap, sym, ◌∙◌}
use Rattle.std.proofs.lemmas.Result.{on_ok_weaker}
use Rattle.pci_picture.specs.Lines.{words_in_line}
use Rattle.pci_picture.specs.RegionWords.{is_uncalled}
use Rattle.pci_picture.specs.Roots.{listed_functions}
use Rattle.pci_picture.proofs.Said.{part_held}
use Rattle.pci_picture.proofs.RegionWords.{called_if_named, called_if_other, called_put, uncalled_if_empty, uncalled_put}
use Rattle.pci_picture.proofs.board.Board.put_called.Goals as goal
use Rattle.pci_picture.proofs.board.Board.put_called.Goals.{else-eq-via-then-eq+else-is_empty, else-eq-via-else-eq}

pub returns-then-is_empty : goal.returns-then-is_empty
returns-then-is_empty g c =
    let r = c.args.region.now in
    let words = words_in_line r.line.now in
    let functions = listed_functions c.args.self.now.functions.items in
    uncalled_put functions words c.args.words.now.bytes.items
    (uncalled_if_empty functions words (sym (part_held r.part words r.looks) ∙ sym c.eq.ensures ∙ c.if-eq.true)
    (ap (λ l. length l == 0) (sym c.called-called.ensures) ∙ sym c.is_empty.ensures ∙ c.if-is_empty.true))

pub returns : goal.returns
returns g c =
    let r = c.args.region.now in
    let words = words_in_line r.line.now in
    let functions = listed_functions c.args.self.now.functions.items in
    let is : is_uncalled functions words ≡ false = elim c.else-eq.branch [
      | else-eq-via-then-eq+else-is_empty w ↦
          called_if_named functions words (ap (λ l. length l == 0) (sym c.called-called.ensures) ∙ sym w.is_empty.ensures ∙ w.if-is_empty.false)
      | else-eq-via-else-eq w ↦ called_if_other functions words (sym (part_held r.part words r.looks) ∙ sym c.eq.ensures ∙ w.if-eq.false)
    ] in
    on_ok_weaker c.put-2.result
    (called_put functions words c.called-called.result.now c.args.words.now.bytes.items c.put.new.self.bytes.items c.put-2.new.self.bytes.items is c.called-called.ensures
    c.in_ok-put.ensures)
    c.put-2.ensures
