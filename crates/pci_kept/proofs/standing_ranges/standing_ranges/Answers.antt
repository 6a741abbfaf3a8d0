use Rattle.std.proofs.Common.{◌≡◌, sym, ap, ◌∙◌, subst, refl}
use Rattle.std.specs.List.{All, filter}
use Rattle.std.proofs.lemmas.Result.{IfOk-weaker}
use Rattle.settle_spec.specs.Lines.{is_held_line}
use Rattle.pci_place.specs.Above.{system_in}
use Rattle.pci_place.proofs.Records.{lent}
use Rattle.pci_first_fit.specs.Slots.{demand_value}
use Rattle.pci_kept.specs.declared.rows.Row.{Row}
use Rattle.pci_kept.specs.Boards.{IsTree}
use Rattle.pci_kept.specs.Known.{asked_by_rules, AreParts}
use Rattle.pci_kept.specs.LineRows.{nobody, AreRowsOfKeptLines}
use Rattle.pci_kept.specs.RangePass.{ArePartRows}
use Rattle.pci_kept.specs.Rows.{AreRows}
use Rattle.pci_kept.specs.StandingRanges.{is_owned}
use Rattle.pci_kept.specs.ToldLines.{AreToldLines}
use Rattle.pci_kept.proofs.KeepingOff.{searched}
use Rattle.pci_kept.proofs.PartRows.{none_owned, part_rows_are}
use Rattle.pci_kept.proofs.RangesFree.{held_lines, held_order}
use Rattle.pci_kept.proofs.standing_ranges.standing_ranges.Goals as goal

pub flags_in_turn-requires-clause-held : goal.flags_in_turn-requires-clause-held
flags_in_turn-requires-clause-held g c =
    let held = c.in_ok-held.held.items in
    let order : AreRows held = subst AreRows (sym (c.in_ok-held.ensures ∙ ap (filter is_owned) c.as_slice-2.ensures.value)) (held_order c.in_ok-all.all.items c.in_ok-all.ensures.order) in
    record {
      order = subst AreRows (sym c.as_slice-6.ensures.value) order;
      reach = searched held c.in_ok-held_reaches.held_reaches.items c.as_slice-3.result.now c.as_slice-6.result.now c.as_slice-7.result.now c.as_slice-3.ensures.value c.as_slice-6.ensures.value c.as_slice-7.ensures.value
          order c.in_ok-held_reaches.ensures;
    }

pub flags_in_turn-requires-clause-parts : goal.flags_in_turn-requires-clause-parts
flags_in_turn-requires-clause-parts g c =
    record {
      order = subst AreRows (sym c.as_slice-8.ensures.value) c.in_ok-parts.ensures.order;
      reach = searched c.in_ok-parts.parts.items c.in_ok-part_reaches.part_reaches.items c.as_slice-5.result.now c.as_slice-8.result.now c.as_slice-9.result.now c.as_slice-5.ensures.value c.as_slice-8.ensures.value c.as_slice-9.ensures.value
          c.in_ok-parts.ensures.order c.in_ok-part_reaches.ensures;
    }

pub flags_in_turn-requires-clause-nobody : goal.flags_in_turn-requires-clause-nobody
flags_in_turn-requires-clause-nobody g c =
    subst (All (λ (r : Row). r.owner ≡ nobody)) (sym c.as_slice-8.ensures.value) (none_owned c.as_slice-4.result.now c.args.table.now c.in_ok-parts.parts.items c.in_ok-parts.ensures.rows)

pub returns-clause-flags : goal.returns-clause-flags
returns-clause-flags g c =
    let s = system_in c.args.admitted.now in
    let q = asked_by_rules c.args.admitted.now.roots (demand_value c.args.lists.now) c.args.rules.now in
    let records = c.records-records.result.now in
    let has = lent s records c.records-records.ensures.value c.outline-outline.ensures.records in
    let admitted = c.outline-outline.ensures.admitted in
    let tree : IsTree q s records = record { has = has; system = admitted.system; nested = admitted.nested } in
    let same = sym c.as_slice-ranges.ensures.value in
    let lines : AreToldLines q s c.as_slice.result.now =
    subst (AreToldLines q s) (sym c.as_slice.ensures.value) (c.in_ok-lines.ensures.lines q s tree (sym (c.roots.ensures ∙ c.outline-outline.ensures.roots)) same refl) in
    let held : AreRowsOfKeptLines q is_held_line c.as_slice-6.result.now =
    subst (AreRowsOfKeptLines q is_held_line) (sym (c.as_slice-6.ensures.value ∙ c.in_ok-held.ensures ∙ ap (filter is_owned) c.as_slice-2.ensures.value))
    (held_lines q c.as_slice-ranges.ensures.told c.in_ok-all.all.items (c.in_ok-all.ensures.rows q s same lines)) in
    let regions = c.as_slice-4.result.now in
    let are : AreParts q s regions = subst (AreParts q s) (sym c.as_slice-4.ensures.value) c.in_ok-regions.ensures in
    let parts : ArePartRows q s c.as_slice-8.result.now =
    subst (ArePartRows q s) (sym c.as_slice-8.ensures.value) (part_rows_are regions c.args.table.now c.in_ok-parts.parts.items c.in_ok-parts.ensures.rows q s are c.requires) in
    IfOk-weaker c.flags_in_turn.result _ _ (λ flags is. is q s tree same c.requires held parts lines) c.flags_in_turn.ensures.flags
