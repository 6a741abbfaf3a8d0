use Rattle.std.proofs.Common.{refl}
use Rattle.pci_base.specs.Space.{space_of}
use Rattle.pci_kept.proofs.BusRows.{taken_with, rising_sorted}
use Rattle.pci_kept.proofs.taken_on.taken_on.Goals as goal

pub returns-clause-taken : goal.returns-clause-taken
returns-clause-taken g c =
    taken_with c.args.takers.now.regions.now c.args.takers.now.lines.now c.args.bus _ refl (space_of c.args.space) c.args.table.now c.in_ok-taken.taken.items c.add_lines_on.new.out.items c.sort_by_first.new.taken.items
    c.in_ok-taken.ensures.parts c.in_ok-add_lines_on.ensures.added c.sort_by_first.ensures.permutation

pub returns-clause-listed : goal.returns-clause-listed
returns-clause-listed g c =
    rising_sorted c.add_lines_on.new.out.items c.sort_by_first.new.taken.items (c.in_ok-add_lines_on.ensures.forward c.in_ok-taken.ensures.forward) c.sort_by_first.ensures.permutation c.sort_by_first.ensures.order
