use Rattle.std.proofs.Common.{sym, subst}
use Rattle.pci_kept.specs.ApartRows.{AreApartRows, IsRowGap}
use Rattle.pci_kept.proofs.RowsApart.{free, apart_new}
use Rattle.pci_kept.proofs.apart.put_row.Goals as goal

pub returns-clause-free : goal.returns-clause-free
returns-clause-free g c =
    let rows = c.args.rows.now.items in
    sym (free rows c.args.row c.requires.order c.in-Some.index (subst (λ xs. IsRowGap xs c.args.row c.in-Some.index) c.as_slice.ensures.value c.in-Some.ensures.some))

pub returns-clause-order : goal.returns-clause-order
returns-clause-order g c =
    let rows = c.args.rows.now.items in
    subst AreApartRows (sym c.in_ok-insert.ensures.items)
    (apart_new rows c.args.row c.requires.order c.in-Some.index (subst (λ xs. IsRowGap xs c.args.row c.in-Some.index) c.as_slice.ensures.value c.in-Some.ensures.some) c.requires.forward)
