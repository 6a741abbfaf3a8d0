use Rattle.std.proofs.Common.{◌∙◌, sym, refl}
use Rattle.std.proofs.lemmas.Bool.{eqb-true}
use Rattle.pci_base.specs.Space.{space_of}
use Rattle.pci_settle_places.proofs.TakenBeside.{no_entries, taken_alone, taken_with, rising_sorted}
use Rattle.pci_settle_places.proofs.lines.taken_at.Goals as goal

pub returns-then-is_empty-clause-taken : goal.returns-then-is_empty-clause-taken
returns-then-is_empty-clause-taken g c =
    taken_alone c.args.staying.now c.args.level (space_of c.args.space) c.in_ok-taken.taken.items c.in_ok-taken.ensures.taken
    (no_entries c.args.staying.now.lines.now (eqb-true _ _ (sym c.is_empty.ensures ∙ c.if-is_empty.true))) _ refl

pub returns-clause-taken : goal.returns-clause-taken
returns-clause-taken g c =
    taken_with c.args.staying.now c.args.level (space_of c.args.space) c.in_ok-taken.taken.items c.in_ok-taken.ensures.taken c.add_lines_on.new.out.items c.sort_by_first.new.taken.items c.in_ok-add_lines_on.ensures.added c.sort_by_first.ensures.permutation

pub returns-clause-listed : goal.returns-clause-listed
returns-clause-listed g c =
    rising_sorted c.add_lines_on.new.out.items c.sort_by_first.new.taken.items (c.in_ok-add_lines_on.ensures.forward c.in_ok-taken.ensures.listed.forward) c.sort_by_first.ensures.permutation c.sort_by_first.ensures.order
