use Rattle.std.proofs.Common.{◌≡◌, ◌++◌, false, if◌then◌else◌, [], ap, sym, ◌∙◌}
use Rattle.std.specs.String.{string_bytes}
use Rattle.std.proofs.lemmas.Result.{on_ok_weaker}
use Rattle.pci_picture.specs.BoxWords.{has_second}
use Rattle.pci_picture.specs.Lines.{words_in_line}
use Rattle.pci_picture.specs.Marks.{has_naming, key_of_region}
use Rattle.pci_picture.specs.RegionWords.{first_words, numbers_naming}
use Rattle.pci_picture.specs.Roots.{listed_functions}
use Rattle.pci_picture.specs.Spots.{spot_at}
use Rattle.pci_picture.specs.Titles.{says_window}
use Rattle.pci_picture.proofs.Boxes.{then_ok}
use Rattle.pci_picture.proofs.BoxWords.{first_written, high_enough, inner_of_other, inner_of_window, no_second, one_line, second_written, too_low, two_lines}
use Rattle.pci_picture.proofs.Said.{part_window}
use Rattle.pci_picture.proofs.section.write_region.Goals as goal
use Rattle.pci_picture.proofs.section.write_region.Goals.{then-is_window, else-is_window, then-not-is_window-via-then-not-is_window, then-not-is_window-via-else-not-is_window+then-saturating_add}

pub returns-clause-adds : goal.returns-clause-adds
returns-clause-adds g c = then_ok c.write_buses.result [] _ _ _ c.in_ok-add_cut.ensures.adds c.write_buses.ensures.adds

pub returns-then-not-is_window-clause-words : goal.returns-then-not-is_window-clause-words
returns-then-not-is_window-clause-words g c = λ width class title.
    let region = c.args.placed.now.region in
    let at = c.args.at in
    let words = words_in_line region.line.now in
    let faults = c.args.board.now.faults in
    let functions = listed_functions c.args.board.now.functions.items in
    let named = has_naming faults.faults.items faults.namings.items in
    let numbers = numbers_naming named (key_of_region words) in
    let box = c.args.placed.now.width in
    let spot = spot_at box.left at.y width at.height class title region.line.now in
    let is = sym (part_window region.part words region.looks) ∙ sym c.eq-is_window.ensures in
    let inner : c.if-is_window.inner ≡ (if says_window words then box.inner else box.right) = elim c.if-is_window.branch [
      | then-is_window w ↦ inner_of_window box words c.if-is_window.inner (is ∙ w.if-is_window.true) w.inner-is
      | else-is_window w ↦ inner_of_other box words c.if-is_window.inner (is ∙ w.if-is_window.false) w.inner-is
    ] in
    let first =
    first_written numbers functions box spot words c.if-is_window.inner c.saturating_sub.result c.saturating_sub-room.result c.saturating_add.result c.saturating_add-2.result
    c.as_bytes.result.now c.put_words.new.words.bytes.items (string_bytes c.args.canvas.now.words) (string_bytes c.add_cut.new.self.words) inner
    c.saturating_sub.ensures c.saturating_sub-room.ensures c.saturating_add.ensures c.saturating_add-2.ensures (c.as_bytes.ensures.value ∙ c.in_ok-class.ensures.class)
    (c.in_ok-class.ensures.puts ∙ ap (λ l. l ++ first_words numbers functions words) c.new-words.ensures) c.in_ok-add_cut.ensures.writes in
    let none : has_second spot words ≡ false = elim c.then-not-is_window.branch [
      | then-not-is_window-via-then-not-is_window w ↦ no_second spot words (is ∙ w.if-not-is_window.true)
      | then-not-is_window-via-else-not-is_window+then-saturating_add w ↦
          too_low spot words w.saturating_add-else-not-is_window.result w.saturating_add-else-not-is_window.ensures w.if-saturating_add.true
    ] in
    one_line named functions box spot (string_bytes c.args.canvas.now.words) (string_bytes c.add_cut.new.self.words) none first

pub returns-clause-words : goal.returns-clause-words
returns-clause-words g c =
    on_ok_weaker c.write_buses.result
    (λ writes width class title.
    let region = c.args.placed.now.region in
    let at = c.args.at in
    let words = words_in_line region.line.now in
    let faults = c.args.board.now.faults in
    let functions = listed_functions c.args.board.now.functions.items in
    let named = has_naming faults.faults.items faults.namings.items in
    let numbers = numbers_naming named (key_of_region words) in
    let box = c.args.placed.now.width in
    let spot = spot_at box.left at.y width at.height class title region.line.now in
    let is = sym (part_window region.part words region.looks) ∙ sym c.eq-is_window.ensures in
    let inner : c.if-is_window.inner ≡ (if says_window words then box.inner else box.right) = elim c.if-is_window.branch [
      | then-is_window w ↦ inner_of_window box words c.if-is_window.inner (is ∙ w.if-is_window.true) w.inner-is
      | else-is_window w ↦ inner_of_other box words c.if-is_window.inner (is ∙ w.if-is_window.false) w.inner-is
    ] in
    let first =
    first_written numbers functions box spot words c.if-is_window.inner c.saturating_sub.result c.saturating_sub-room.result c.saturating_add.result c.saturating_add-2.result
    c.as_bytes.result.now c.put_words.new.words.bytes.items (string_bytes c.args.canvas.now.words) (string_bytes c.add_cut.new.self.words) inner
    c.saturating_sub.ensures c.saturating_sub-room.ensures c.saturating_add.ensures c.saturating_add-2.ensures (c.as_bytes.ensures.value ∙ c.in_ok-class.ensures.class)
    (c.in_ok-class.ensures.puts ∙ ap (λ l. l ++ first_words numbers functions words) c.new-words.ensures) c.in_ok-add_cut.ensures.writes in
    let second =
    second_written functions box spot words c.buses.result c.if-is_window.inner c.saturating_sub.result c.saturating_sub-room.result c.saturating_add.result
    c.saturating_add-2.result (string_bytes c.add_cut.new.self.words) (string_bytes c.write_buses.new.canvas.words) inner c.saturating_sub.ensures
    c.saturating_sub-room.ensures c.saturating_add.ensures c.saturating_add-2.ensures c.buses.ensures writes in
    two_lines named functions box spot (string_bytes c.args.canvas.now.words) (string_bytes c.add_cut.new.self.words) (string_bytes c.write_buses.new.canvas.words)
    (high_enough spot words c.saturating_add-else-not-is_window.result (is ∙ c.if-not-is_window.false) c.saturating_add-else-not-is_window.ensures c.if-saturating_add.false)
    first second)
    c.write_buses.ensures.writes
