use Rattle.std.proofs.Common.{◌≡◌, length, sym, ap, ◌∙◌, subst, arith, refl, true}
use Rattle.std.specs.List.{All}
use Rattle.pci_place.specs.Above.{system_in}
use Rattle.pci_place.proofs.Records.{lent, same_count}
use Rattle.pci_first_fit.specs.Lists.{lists_value}
use Rattle.pci_first_fit.specs.Slots.{demand_value}
use Rattle.settle_spec.specs.Stands.{is_line_on}
use Rattle.pci_kept.specs.Boards.{IsTree, IsBoard}
use Rattle.pci_kept.specs.Known.{asked_by_rules}
use Rattle.pci_first_fit.specs.Kept.{AreNone}
use Rattle.pci_kept.specs.LineRows.{AreRowsOfKeptLines}
use Rattle.pci_kept.specs.Passing.{CanBeNoted, AreOrdered, AreStanding}
use Rattle.pci_kept.specs.Rows.{AreRows}
use Rattle.pci_kept.specs.ToldLines.{AreToldLines}
use Rattle.pci_kept.proofs.Whole.{passed_none, all_stand, slice_back}
use Rattle.pci_kept.proofs.KeepingOff.{searched}
use Rattle.pci_kept.proofs.pass.standing.Goals as goal

pub ordered_regions-requires-clause-count : goal.ordered_regions-requires-clause-count
ordered_regions-requires-clause-count g c = ap length c.as_slice.ensures.value ∙ c.in_ok-lines.ensures.count

pub line_rows-requires : goal.line_rows-requires
line_rows-requires g c = record { count = ap length c.as_slice.ensures.value ∙ c.in_ok-lines.ensures.count }

pub line_rows-requires-2 : goal.line_rows-requires-2
line_rows-requires-2 g c = record { count = ap length c.as_slice.ensures.value ∙ c.in_ok-lines.ensures.count }

pub note_all-requires-clause-on : goal.note_all-requires-clause-on
note_all-requires-clause-on g c =
    record {
      order = subst AreRows (sym c.as_slice-4.ensures.value) c.in_ok-on.ensures.order;
      reach = searched c.in_ok-on.on.items c.in_ok-on_reaches.on_reaches.items c.as_slice-2.result.now c.as_slice-4.result.now c.as_slice-5.result.now c.as_slice-2.ensures.value c.as_slice-4.ensures.value c.as_slice-5.ensures.value
          c.in_ok-on.ensures.order c.in_ok-on_reaches.ensures;
    }

pub note_all-requires-clause-all : goal.note_all-requires-clause-all
note_all-requires-clause-all g c =
    record {
      order = subst AreRows (sym c.as_slice-6.ensures.value) c.in_ok-all.ensures.order;
      reach = searched c.in_ok-all.all.items c.in_ok-all_reaches.all_reaches.items c.as_slice-3.result.now c.as_slice-6.result.now c.as_slice-7.result.now c.as_slice-3.ensures.value c.as_slice-6.ensures.value c.as_slice-7.ensures.value
          c.in_ok-all.ensures.order c.in_ok-all_reaches.ensures;
    }

pub note_all-requires-clause-ready : goal.note_all-requires-clause-ready
note_all-requires-clause-ready g c =
    let s = system_in c.args.admitted.now in
    let q = asked_by_rules c.args.admitted.now.roots (demand_value c.args.lists.now) c.args.rules.now in
    let records = c.records-records.result.now in
    let has = lent s records c.records-records.ensures.value c.outline-outline.ensures.records in
    let admitted = c.outline-outline.ensures.admitted in
    let tree : IsTree q s records = record { has = has; system = admitted.system; nested = admitted.nested } in
    let lines : AreToldLines q s c.as_slice.result.now =
    subst (AreToldLines q s) (sym c.as_slice.ensures.value) (c.in_ok-lines.ensures.lines q s tree (sym (c.roots.ensures ∙ c.outline-outline.ensures.roots)) (sym c.as_slice-ranges.ensures.value) refl) in
    subst (All (CanBeNoted (length records))) (sym c.as_slice-8.ensures.value)
    (subst (λ n. All (CanBeNoted n) c.in_ok-regions.regions.items) (same_count s records has) (c.in_ok-regions.ensures.ready c.as_slice-ranges.ensures.value lines))

pub returns : goal.returns
returns g c =
    let s = system_in c.args.admitted.now in
    let q = asked_by_rules c.args.admitted.now.roots (demand_value c.args.lists.now) c.args.rules.now in
    let records = c.records-records.result.now in
    let has = lent s records c.records-records.ensures.value c.outline-outline.ensures.records in
    let admitted = c.outline-outline.ensures.admitted in
    let count = same_count s records has in
    let board : IsBoard q s records (lists_value c.args.lists.now) = record {
      has = has;
      system = admitted.system;
      nested = admitted.nested;
      same = refl;
    } in
    let tree : IsTree q s records = record { has = has; system = admitted.system; nested = admitted.nested } in
    let same = sym c.as_slice-ranges.ensures.value in
    let lines : AreToldLines q s c.as_slice.result.now =
    subst (AreToldLines q s) (sym c.as_slice.ensures.value) (c.in_ok-lines.ensures.lines q s tree (sym (c.roots.ensures ∙ c.outline-outline.ensures.roots)) same refl) in
    let slice = c.as_slice-8.result.now in
    let order : AreOrdered q s slice = subst (AreOrdered q s) (sym c.as_slice-8.ensures.value) (c.in_ok-regions.ensures.ordered c.as_slice-ranges.ensures.value lines) in
    let begun = c.as_mut_slice.result.now in
    let none : AreNone begun = subst AreNone (sym c.as_mut_slice.ensures.value) c.in_ok-table.ensures.none in
    let size : length begun ≡ length s = ap length c.as_mut_slice.ensures.value ∙ c.in_ok-table.ensures.count ∙ sym count in
    let start = passed_none q s admitted.nested slice order begun size none c.none-taken.result.level c.none-taken.result.io.items c.none-taken.result.mem.items c.none-taken.ensures.level c.none-taken.ensures.io c.none-taken.ensures.mem in
    let table = c.note_all.new.table in
    let whole = all_stand q s admitted.nested slice order admitted.system c.note_all.new.taken.level c.note_all.new.taken.io.items c.note_all.new.taken.mem.items table
    (c.in_ok-note_all.ensures.passed q s board c.as_slice-ranges.ensures.told
    record {
      on = subst (AreRowsOfKeptLines q (is_line_on q s)) (sym c.as_slice-4.ensures.value) (c.in_ok-on.ensures.rows q s same lines);
      all = subst (AreRowsOfKeptLines q (λ x. true)) (sym c.as_slice-6.ensures.value) (c.in_ok-all.ensures.rows q s same lines);
    } order start) in
    let long = c.in_ok-table.table.ok.0 in
    subst (AreStanding q s) (sym (slice_back c.in_ok-table.table.len table c.in_ok-table.table.items (c.note_all.auto.table ∙ ap length c.as_mut_slice.ensures.value) (omega (arith, long)))) whole
