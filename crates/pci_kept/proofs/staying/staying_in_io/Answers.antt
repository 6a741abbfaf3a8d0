use Rattle.std.proofs.lemmas.Result.{err_from_is_err_and}
use Rattle.pci_first_fit.specs.Slots.{demand_value}
use Rattle.pci_kept.proofs.Asked.{left_of, fault_in_io, stays_in_io}
use Rattle.pci_kept.proofs.staying.staying_in_io.Goals as goal

pub returns-in_err-windows-clause-fault : goal.returns-in_err-windows-clause-fault
returns-in_err-windows-clause-fault g c =
    let left = left_of c.args.admitted.now (demand_value c.io_alone-lists.result) c.args.rules.now c.outline.ensures.admitted c.records.result.now c.records.ensures.value c.outline.ensures.records
    c.of.result c.of.ensures c.open_windows-opened.result c.open_windows-opened.ensures in
    let p = err_from_is_err_and c.from_residual.result c.from_residual.ensures.1 in
    rw (p.1, p.2) (fault_in_io _ c.args.admitted.now.roots (demand_value c.args.lists.now) (demand_value c.io_alone-lists.result) c.args.rules.now c.io_alone-lists.ensures left c.in_err-windows.field-0.0 c.in_err-windows.ensures.fault)

pub returns-clause-stay : goal.returns-clause-stay
returns-clause-stay g c =
    let left = left_of c.args.admitted.now (demand_value c.io_alone-lists.result) c.args.rules.now c.outline.ensures.admitted c.records.result.now c.records.ensures.value c.outline.ensures.records
    c.of.result c.of.ensures c.open_windows-opened.result c.open_windows-opened.ensures in
    stays_in_io _ c.args.admitted.now.roots (demand_value c.args.lists.now) (demand_value c.io_alone-lists.result) c.args.rules.now c.io_alone-lists.ensures left c.in_ok-windows.windows c.in_ok-table.table.items c.in_ok-windows.ensures.windows c.in_ok-table.ensures
