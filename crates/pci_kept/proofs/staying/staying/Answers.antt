use Rattle.std.proofs.Common.{refl}
use Rattle.pci_place.specs.Above.{system_in}
use Rattle.pci_place.proofs.Records.{lent}
use Rattle.pci_first_fit.specs.Slots.{demand_value}
use Rattle.pci_kept.proofs.Asked.{left_of}
use Rattle.pci_kept.proofs.Marks.{large_beside, known_beside, new_beside}
use Rattle.pci_kept.proofs.staying.staying.Goals as goal

pub returns-in-Some-clause-fault : goal.returns-in-Some-clause-fault
returns-in-Some-clause-fault g c =
    let left = left_of c.args.admitted.now (demand_value c.args.lists.now) c.args.rules.now c.outline.ensures.admitted c.records-records.result.now c.records-records.ensures.value c.outline.ensures.records
    c.of.result c.of.ensures c.open_windows-opened.result c.open_windows-opened.ensures in
    large_beside _ _ left c.records-records.result.now (lent (system_in c.args.admitted.now) c.records-records.result.now c.records-records.ensures.value c.outline.ensures.records)
    _ _ c.in_ok-windows.ensures.windows c.in-Some.window c.in-Some.ensures.some

pub returns-clause-stay : goal.returns-clause-stay
returns-clause-stay g c =
    let left = left_of c.args.admitted.now (demand_value c.args.lists.now) c.args.rules.now c.outline.ensures.admitted c.records-records.result.now c.records-records.ensures.value c.outline.ensures.records
    c.of.result c.of.ensures c.open_windows-opened.result c.open_windows-opened.ensures in
    c.in_ok-table.ensures record {
      left = left;
      new = new_beside _ _ left _ _ c.in_ok-windows.ensures.windows
          (known_beside (system_in c.args.admitted.now) c.records-records.result.now (lent (system_in c.args.admitted.now) c.records-records.result.now c.records-records.ensures.value c.outline.ensures.records)
          _ (c.in_default.ensures.none refl));
    }
