use Rattle.std.proofs.Common.{◌≡◌, ◌∙◌, List, length, map, arith, sym, ap, subst, refl}
use Rattle.std.proofs.lemmas.Result.{err_from_is_err_and}
use Rattle.pci_spec.specs.System.{System, Io}
use Rattle.pci_spec.specs.Decoded.{HasRecords}
use Rattle.pci_spec.specs.Decoded as decoded
use Rattle.pci_function.specs.declared.record.Record.{Record}
use Rattle.pci_function.specs.Values.{record_value}
use Rattle.pci_place.specs.Above.{system_in}
use Rattle.pci_place.proofs.Records.{lent, same_count}
use Rattle.pci_first_fit.specs.Slots.{demand_value}
use Rattle.pci_first_fit.specs.Lines.{AreLines}
use Rattle.pci_settle_places.specs.declared.places.Places.{Places}
use Rattle.pci_settle_places.specs.Placed.{AreAllNone, ArePlacesOff}
use Rattle.pci_settle_places.proofs.Buses.{slice_back}
use Rattle.pci_settle_places.proofs.BothSpaces.{has_none, still_none, request_known, both_placed, io_unplaced, memory_unplaced}
use Rattle.pci_settle_places.proofs.place.place.Goals as goal

-- a table as long as the records has an entry for each function
as_many : (s : System) (records : List Record) {values : List decoded.Record} → map record_value records ≡ values → HasRecords s values → (table : List Places) → length table ≡ length records → length table ≡ length s
as_many s records same has table made = made ∙ sym (same_count s records (lent s records same has))

pub place_in-requires-clause-none : goal.place_in-requires-clause-none
place_in-requires-clause-none g c =
    let s = system_in c.args.admitted.now in
    let same = c.as_mut_slice-entries.ensures.value in
    let count = as_many s c.records.result.now c.records.ensures.value c.outline-outline.ensures.records c.in_ok-table.table.items c.in_ok-table.ensures.count in
    has_none s Io c.as_mut_slice-entries.result.now (ap length same ∙ count) (subst AreAllNone (sym same) c.in_ok-table.ensures.none)

pub returns-in_err-place_in-clause-fault : goal.returns-in_err-place_in-clause-fault
returns-in_err-place_in-clause-fault g c =
    let p = err_from_is_err_and c.from_residual-in_err-place_in.result c.from_residual-in_err-place_in.ensures.1 in
    rw (p.1, p.2) (io_unplaced c.args.admitted.now.roots (system_in c.args.admitted.now) (demand_value c.args.lists.now) _ c.of-terms.ensures c.args.left.now _ c.in_ok-held.ensures.held _ (subst (λ rs. AreLines rs (demand_value c.args.lists.now).told.ranges c.in_ok-rows.rows.items) (c.roots.ensures ∙ c.outline-outline.ensures.roots) c.in_ok-rows.ensures.lines) _ refl c.as_slice-2.ensures.value c.as_slice-3.ensures.value c.in_err-place_in.field-0.0 c.in_err-place_in.ensures.fault)

pub place_in-requires-2-clause-none : goal.place_in-requires-2-clause-none
place_in-requires-2-clause-none g c =
    let s = system_in c.args.admitted.now in
    let same = c.as_mut_slice-entries.ensures.value in
    let count = as_many s c.records.result.now c.records.ensures.value c.outline-outline.ensures.records c.in_ok-table.table.items c.in_ok-table.ensures.count in
    still_none s c.as_mut_slice-entries.result.now c.place_in.new.table (ap length same ∙ count) (subst AreAllNone (sym same) c.in_ok-table.ensures.none) c.in_ok-place_in.ensures.others

pub returns-in_err-place_in-2-clause-fault : goal.returns-in_err-place_in-2-clause-fault
returns-in_err-place_in-2-clause-fault g c =
    let p = err_from_is_err_and c.from_residual-in_err-place_in-2.result c.from_residual-in_err-place_in-2.ensures.1 in
    rw (p.1, p.2)
    (memory_unplaced c.args.admitted.now.roots (system_in c.args.admitted.now) (demand_value c.args.lists.now) _ c.of-terms.ensures c.args.left.now _ c.in_ok-held.ensures.held _ (subst (λ rs. AreLines rs (demand_value c.args.lists.now).told.ranges c.in_ok-rows.rows.items) (c.roots.ensures ∙ c.outline-outline.ensures.roots) c.in_ok-rows.ensures.lines) _ refl c.as_slice-2.ensures.value c.as_slice-3.ensures.value c.place_in.new.table c.in_ok-place_in.ensures.placed c.in_err-place_in-2.field-0.0 c.in_err-place_in-2.ensures.fault)

pub returns-clause-places : goal.returns-clause-places
returns-clause-places g c =
    let s = system_in c.args.admitted.now in
    let count = as_many s c.records.result.now c.records.ensures.value c.outline-outline.ensures.records c.in_ok-table.table.items c.in_ok-table.ensures.count in
    let long = c.in_ok-table.table.ok.0 in
    let even = c.in_ok-place_in-2.ensures.others.count ∙ c.in_ok-place_in.ensures.others.count ∙ ap length c.as_mut_slice-entries.ensures.value in
    subst (ArePlacesOff c.args.admitted.now.roots s (demand_value c.args.lists.now) c.args.left.now) (sym (slice_back c.in_ok-table.table.len c.place_in-2.new.table c.in_ok-table.table.items even (omega (arith, long))))
    (both_placed c.args.admitted.now.roots (system_in c.args.admitted.now) (demand_value c.args.lists.now) _ c.of-terms.ensures c.args.left.now _ c.in_ok-held.ensures.held _ (subst (λ rs. AreLines rs (demand_value c.args.lists.now).told.ranges c.in_ok-rows.rows.items) (c.roots.ensures ∙ c.outline-outline.ensures.roots) c.in_ok-rows.ensures.lines) _ refl c.as_slice-2.ensures.value c.as_slice-3.ensures.value c.place_in.new.table c.place_in-2.new.table (even ∙ count) c.in_ok-place_in.ensures.placed c.in_ok-place_in-2.ensures.others c.in_ok-place_in-2.ensures.placed)

pub place_in-requires-clause-known : goal.place_in-requires-clause-known
place_in-requires-clause-known g c =
    request_known c.args.admitted.now.roots (system_in c.args.admitted.now) (demand_value c.args.lists.now) _ c.of-terms.ensures c.args.left.now _ c.in_ok-held.ensures.held _ (subst (λ rs. AreLines rs (demand_value c.args.lists.now).told.ranges c.in_ok-rows.rows.items) (c.roots.ensures ∙ c.outline-outline.ensures.roots) c.in_ok-rows.ensures.lines) _ refl c.as_slice-2.ensures.value c.as_slice-3.ensures.value c.requires

pub place_in-requires-2-clause-known : goal.place_in-requires-2-clause-known
place_in-requires-2-clause-known g c =
    request_known c.args.admitted.now.roots (system_in c.args.admitted.now) (demand_value c.args.lists.now) _ c.of-terms.ensures c.args.left.now _ c.in_ok-held.ensures.held _ (subst (λ rs. AreLines rs (demand_value c.args.lists.now).told.ranges c.in_ok-rows.rows.items) (c.roots.ensures ∙ c.outline-outline.ensures.roots) c.in_ok-rows.ensures.lines) _ refl c.as_slice-2.ensures.value c.as_slice-3.ensures.value c.requires
