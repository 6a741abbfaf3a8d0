use Rattle.std.proofs.Common.{if◌then◌else◌, None, ap, sym, ◌∙◌}
use Rattle.std.specs.List.{slice_range}
use Rattle.pci_picture.specs.Lines.{words_in_line}
use Rattle.pci_picture.specs.Marks.{key_of_region}
use Rattle.pci_picture.specs.Named.{function_listed}
use Rattle.pci_picture.specs.Roots.{listed_functions}
use Rattle.pci_picture.specs.Slots.{slot_of_key}
use Rattle.pci_picture.proofs.Found.{at_on_bus, one_of_all, rise_on}
use Rattle.pci_picture.proofs.Said.{part_free}
use Rattle.pci_picture.proofs.board.Board.function.Goals as goal

pub returns-then-eq-clause-at : goal.returns-then-eq-clause-at
returns-then-eq-clause-at g c =
    let r = c.args.region.now in
    let words = words_in_line r.line.now in
    let functions = listed_functions c.args.self.now.functions.items in
    ap (λ b. if b then None else function_listed functions (slot_of_key (key_of_region words))) (sym c.if-eq.true ∙ c.eq.ensures ∙ part_free r.part words r.looks)

pub returns-clause-at : goal.returns-clause-at
returns-clause-at g c =
    let r = c.args.region.now in
    let words = words_in_line r.line.now in
    let all = c.args.self.now.functions.items in
    let functions = listed_functions all in
    let begin = c.on_bus-begin.result.0 in
    let end = c.on_bus-begin.result.1 in
    let part = c.in_ok-get.ensures.lookup.0.2 ∙ ap (λ l. slice_range l begin end) c.as_slice.ensures.value ∙ c.on_bus-begin.ensures.all in
    c.find.ensures.at (rise_on all c.in_ok-get.field-0.now c.bus_of.result part c.args.self.now.sorted)
    ∙ ap (λ l. function_listed (listed_functions l) c.slot_of-slot.result) part ∙ at_on_bus all c.slot_of-slot.result c.bus_of.result (sym c.bus_of.ensures)
    ∙ ap (function_listed functions) (c.slot_of-slot.ensures ∙ ap slot_of_key r.is_of_line.key_is)
    ∙ ap (λ b. if b then None else function_listed functions (slot_of_key (key_of_region words))) (sym c.if-eq.false ∙ c.eq.ensures ∙ part_free r.part words r.looks)

pub returns-clause-own : goal.returns-clause-own
returns-clause-own g c =
    let begin = c.on_bus-begin.result.0 in
    let end = c.on_bus-begin.result.1 in
    one_of_all c.find.result c.args.self.now.functions.items c.in_ok-get.field-0.now begin _
    (c.in_ok-get.ensures.lookup.0.2 ∙ ap (λ l. slice_range l begin end) c.as_slice.ensures.value) c.find.ensures.own
