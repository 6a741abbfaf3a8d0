use Rattle.std.proofs.Common.{◌++◌, ap, sym, ◌∙◌}
use Rattle.pci_picture.specs.Lines.{words_in_line}
use Rattle.pci_picture.specs.Roots.{listed_functions}
use Rattle.pci_picture.specs.Said.{said_by}
use Rattle.pci_picture.specs.Titles.{buses_if_listed, function_of_region, said_of_window}
use Rattle.pci_picture.proofs.Said.{free_title, other_title, part_free}
use Rattle.pci_picture.proofs.Titles.{title_alone, title_put}
use Rattle.pci_picture.proofs.board.Board.title.Goals as goal

pub returns-then-eq-clause-line : goal.returns-then-eq-clause-line
returns-then-eq-clause-line g c =
    let r = c.args.region.now in
    title_alone r.line.now c.in_ok-title.title.bytes.items r.is_one_line r.is_told c.in_ok-title.ensures

pub returns-clause-line : goal.returns-clause-line
returns-clause-line g c =
    let r = c.args.region.now in
    title_put r.line.now c.function_name.result.now c.as_slice.result.now c.in_ok-title.title.bytes.items _ _ c.put-3.new.self.bytes.items r.is_one_line r.is_told
    c.in_ok-title.ensures c.in_ok-put.ensures c.in_ok-put-2.ensures c.in_ok-put-3.ensures

pub returns-then-eq-clause-said : goal.returns-then-eq-clause-said
returns-then-eq-clause-said g c =
    let r = c.args.region.now in
    let words = words_in_line r.line.now in
    free_title (listed_functions c.args.self.now.functions.items) (said_by c.args.self.now.faults) words r.line.now c.in_ok-title.title.bytes.items
    (sym (part_free r.part words r.looks) ∙ sym c.eq.ensures ∙ c.if-eq.true) c.in_ok-title.ensures

pub returns-clause-said : goal.returns-clause-said
returns-clause-said g c =
    let r = c.args.region.now in
    let words = words_in_line r.line.now in
    let functions = listed_functions c.args.self.now.functions.items in
    let said = said_by c.args.self.now.faults in
    let window = said_of_window words (buses_if_listed (function_of_region functions words)) in
    other_title functions said words r.line.now c.function_name.result.now c.as_slice.result.now c.in_ok-title.title.bytes.items c.put.new.self.bytes.items c.put-2.new.self.bytes.items
    c.put-3.new.self.bytes.items (sym (part_free r.part words r.looks) ∙ sym c.eq.ensures ∙ c.if-eq.false) c.function_name.ensures
    (c.as_slice.ensures.value ∙ c.in_ok-put_about.ensures ∙ ap (λ l. l ++ (window ++ said r.key)) c.new-about.ensures ∙ ap (λ k. window ++ said k) r.is_of_line.key_is)
    c.in_ok-title.ensures c.in_ok-put.ensures c.in_ok-put-2.ensures c.in_ok-put-3.ensures
