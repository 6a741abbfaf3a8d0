use Rattle.std.proofs.Common.{[], ◌++◌, map, ap, sym, subst, ◌∙◌, ◌+◌}
use Rattle.pci_spec.specs.System.{window_space}
use Rattle.settle_spec.specs.Lines.{lines_on}
use Rattle.pci_base.specs.Ranges.{decoded_range_of}
use Rattle.pci_base.specs.Space.{space_of}
use Rattle.pci_base.specs.WindowKinds.{kind_value}
use Rattle.pci_first_fit.specs.Lines.{AreAdded}
use Rattle.pci_grow.specs.RoomRows.{row_number}
use Rattle.pci_grow.specs.Grounds.{AreAlike}
use Rattle.pci_grow.specs.There.{tables_of, there_of, in_row}
use Rattle.pci_grow.proofs.AlikeTaken.{alike_itself}
use Rattle.pci_grow.proofs.Behind.{no_rows, none_on, taken_alike}
use Rattle.pci_grow.proofs.coming.taken_behind.Goals as goal

pub returns-then-is_empty-clause-taken : goal.returns-then-is_empty-clause-taken
returns-then-is_empty-clause-taken g c = λ q n lines level.
    let taken_is = c.in_ok-taken.ensures ∙ ap (there_of (tables_of c.args.there.now)) c.on_bus.ensures in
    alike_itself (ap (map decoded_range_of) taken_is
    ∙ sym (ap (λ xs. xs ++ map decoded_range_of (there_of (tables_of c.args.there.now) (in_row (row_number (c.args.bus + 1) (window_space (kind_value c.args.class))) c.args.setting.now.rows.now))) (none_on q c.args.setting.now.lines.now lines (no_rows c.args.setting.now.lines.now c.is_empty.result c.is_empty.ensures c.if-is_empty.true) (window_space (kind_value c.args.class)) n)))

pub returns-clause-taken : goal.returns-clause-taken
returns-clause-taken g c = λ q n lines level.
    let taken_is = c.as_slice.ensures.value ∙ c.in_ok-taken.ensures ∙ ap (there_of (tables_of c.args.there.now)) c.on_bus.ensures in
    let added = c.in_ok-add_lines_on.ensures.added q n lines (ap (λ m. m + 1) c.from-level.ensures ∙ sym level) in
    subst (λ xs. AreAlike (map decoded_range_of c.in_ok-ordered.ordered.items) (lines_on q (window_space (kind_value c.args.class)) n ++ map decoded_range_of xs)) taken_is
    (taken_alike c.as_slice.result.now c.add_lines_on.new.out.items c.extend_from_slice.new.self.items c.in_ok-ordered.ordered.items c.in_ok-extend_from_slice.ensures.items c.in_ok-ordered.ensures.only c.in_ok-ordered.ensures.all
    (lines_on q (window_space (kind_value c.args.class)) n)
    (subst (λ sp. AreAdded [] c.add_lines_on.new.out.items (lines_on q sp n)) c.of.ensures (subst (λ xs. AreAdded xs c.add_lines_on.new.out.items (lines_on q (space_of c.of.result) n)) c.new-all.ensures.items added)))
