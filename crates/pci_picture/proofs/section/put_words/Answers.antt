use Rattle.std.proofs.Common.{◌≡◌, false, if◌then◌else◌, [], ap, sym, ◌∙◌}
use Rattle.std.specs.Prelude.{codes}
use Rattle.pci_picture.specs.Lines.{words_in_line}
use Rattle.pci_picture.specs.Marks.{has_naming, key_of_region}
use Rattle.pci_picture.specs.RegionWords.{numbers_naming}
use Rattle.pci_picture.specs.Roots.{listed_functions}
use Rattle.pci_picture.specs.Titles.{says_free, says_window}
use Rattle.pci_picture.proofs.RegionWords.{free_class, free_words, other_class, other_words, window_class, window_words}
use Rattle.pci_picture.proofs.Said.{is_free, is_window, isnt_free, isnt_window, window_isnt_free}
use Rattle.pci_picture.proofs.section.put_words.Goals as goal
use Rattle.pci_picture.proofs.section.put_words.Goals.{then-is_marked, else-is_marked}

pub returns-in_ok-put_size-in-Free-clause-puts : goal.returns-in_ok-put_size-in-Free-clause-puts
returns-in_ok-put_size-in-Free-clause-puts g c =
    let r = c.args.region.now in
    let words = words_in_line r.line.now in
    let faults = c.args.board.now.faults in
    free_words (numbers_naming (has_naming faults.faults.items faults.namings.items) (key_of_region words)) (listed_functions c.args.board.now.functions.items) words r.size.now
    c.args.words.now.bytes.items c.put.new.self.bytes.items c.put_size.new.self.bytes.items (is_free r.part words r.looks c.in-Free.is) r.texts.size_is
    c.in_ok-put-in-Free.ensures c.in_ok-put_size-in-Free.ensures

pub returns-in_ok-put_size-in-Free-clause-class : goal.returns-in_ok-put_size-in-Free-clause-class
returns-in_ok-put_size-in-Free-clause-class g c =
    let r = c.args.region.now in
    let words = words_in_line r.line.now in
    let faults = c.args.board.now.faults in
    free_class (numbers_naming (has_naming faults.faults.items faults.namings.items) (key_of_region words)) words (is_free r.part words r.looks c.in-Free.is)

pub returns-in_ok-put_region-in-Window-clause-puts : goal.returns-in_ok-put_region-in-Window-clause-puts
returns-in_ok-put_region-in-Window-clause-puts g c =
    let r = c.args.region.now in
    let words = words_in_line r.line.now in
    let faults = c.args.board.now.faults in
    window_words (numbers_naming (has_naming faults.faults.items faults.namings.items) (key_of_region words)) (listed_functions c.args.board.now.functions.items) words
    c.args.words.now.bytes.items c.put_region.new.self.bytes.items (window_isnt_free r.part words r.looks c.in-Window.is) (is_window r.part words r.looks c.in-Window.is)
    c.in_ok-put_region-in-Window.ensures

pub returns-in_ok-put_region-in-Window-clause-class : goal.returns-in_ok-put_region-in-Window-clause-class
returns-in_ok-put_region-in-Window-clause-class g c =
    let r = c.args.region.now in
    let words = words_in_line r.line.now in
    let faults = c.args.board.now.faults in
    window_class (numbers_naming (has_naming faults.faults.items faults.namings.items) (key_of_region words)) words
    (window_isnt_free r.part words r.looks c.in-Window.is) (is_window r.part words r.looks c.in-Window.is)

pub returns-after-is_marked : goal.returns-after-is_marked
returns-after-is_marked g c =
    let r = c.args.region.now in
    let words = words_in_line r.line.now in
    let faults = c.args.board.now.faults in
    let numbers = numbers_naming (has_naming faults.faults.items faults.namings.items) (key_of_region words) in
    let free : says_free words ≡ false = isnt_free r.part words r.looks c.in_default.not-Free in
    let window : says_window words ≡ false = isnt_window r.part words r.looks c.in_default.not-Window in
    let marked = c.in_ok-is_marked-in_default.ensures.marked in
    record {
      puts =
          other_words numbers (listed_functions c.args.board.now.functions.items) words c.args.words.now.bytes.items c.put_marks.new.words.bytes.items
          c.put_region-in_default.new.self.bytes.items c.put_called.new.words.bytes.items free window c.in_ok-is_marked-in_default.ensures.puts
          c.in_ok-put_region-in_default.ensures c.in_ok-put_called-in_default.ensures;
      class =
          other_class numbers words c.if-is_marked.result.now free window (elim c.if-is_marked.branch [
            | then-is_marked w ↦ ap (λ s. s.now) w.result-is ∙ sym (ap (λ b. if b then codes "alarm" else []) (sym marked ∙ w.if-is_marked.true))
            | else-is_marked w ↦ ap (λ s. s.now) w.result-is ∙ sym (ap (λ b. if b then codes "alarm" else []) (sym marked ∙ w.if-is_marked.false))
          ]);
    }
