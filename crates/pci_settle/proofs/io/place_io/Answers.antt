use Rattle.std.proofs.Common.{◌∙◌, refl, sym, subst}
use Rattle.std.proofs.lemmas.Result.{err_from_is_err_and}
use Rattle.pci_base.specs.WindowKinds.{kind_value}
use Rattle.pci_place.specs.Above.{system_in}
use Rattle.pci_first_fit.specs.Slots.{demand_value, demand_in_io}
use Rattle.pci_base.specs.declared.memory.Refused.TheVariants as refused
use Rattle.pci_settle_places.specs.Placed.{IsUnplacedOff}
use Rattle.pci_kept.specs.Known.{asked_by_rules}
use Rattle.pci_settle.specs.Lacks.{unplaced_class}
use Rattle.pci_settle.proofs.HeldTables.{rest_can_be_left, leaving_rest}
use Rattle.pci_settle.proofs.Refusals.{named}
use Rattle.pci_settle.proofs.IoFirst.{can_alone, leaving_alone, unplaced_alone, class_io, class_memory, alone_placed, alone_room, alone_fault, alone_large, is_alone}
use Rattle.pci_settle.proofs.io.place_io.Goals as goal

pub returns-in_err-table-clause-fault : goal.returns-in_err-table-clause-fault
returns-in_err-table-clause-fault g c =
    let q = asked_by_rules c.args.admitted.now.roots (demand_value c.args.lists.now) c.args.rules.now in
    let p = err_from_is_err_and c.from_residual.result c.from_residual.ensures.1 in
    rw (p.1, p.2) (alone_large c.args.admitted.now q c.in_err-table.field-0.0 c.in_err-table.ensures.fault)

pub place-requires : goal.place-requires
place-requires g c =
    let alone = demand_in_io (demand_value c.args.lists.now) in
    can_alone c.args.admitted.now.roots (system_in c.args.admitted.now) _ c.io_alone.ensures
    (rest_can_be_left c.args.admitted.now alone c.args.rules.now c.outline-outline.ensures.admitted c.records.result.now c.records.ensures.value c.outline-outline.ensures.records
    _ c.open_windows-over.ensures c.as_slice.result.now c.as_slice.ensures.value c.as_slice.ensures.value refl c.in_ok-table.ensures.stay)

pub returns-in-Ok-clause-room : goal.returns-in-Ok-clause-room
returns-in-Ok-clause-room g c =
    let q = asked_by_rules c.args.admitted.now.roots (demand_value c.args.lists.now) c.args.rules.now in
    let alone = demand_in_io (demand_value c.args.lists.now) in
    let leaving = leaving_rest c.args.admitted.now alone c.args.rules.now c.outline-outline.ensures.admitted c.records.result.now c.records.ensures.value c.outline-outline.ensures.records
    _ c.open_windows-over.ensures c.as_slice.result.now c.as_slice.ensures.value c.as_slice.ensures.value refl c.in_ok-table.ensures.stay in
    alone_placed q (system_in c.args.admitted.now) (c.in-Ok.ensures.places _ _ (leaving_alone c.args.admitted.now.roots (system_in c.args.admitted.now) _ c.io_alone.ensures _ _ leaving)).lack

pub fault_of-requires : goal.fault_of-requires
fault_of-requires g c =
    let alone = demand_in_io (demand_value c.args.lists.now) in
    let can = rest_can_be_left c.args.admitted.now alone c.args.rules.now c.outline-outline.ensures.admitted c.records.result.now c.records.ensures.value c.outline-outline.ensures.records
    _ c.open_windows-over.ensures c.as_slice.result.now c.as_slice.ensures.value c.as_slice.ensures.value refl c.in_ok-table.ensures.stay in
    named c.args.admitted.now.roots alone _ (system_in c.args.admitted.now) c.outline-outline.ensures.admitted.system can c.in-Err-Fault.unplaced
    (unplaced_alone c.args.admitted.now.roots (system_in c.args.admitted.now) _ c.io_alone.ensures (refused.Fault c.in-Err-Fault.unplaced)
    (subst (IsUnplacedOff c.args.admitted.now.roots (system_in c.args.admitted.now) (demand_value c.io_alone.result) _) c.in-Err-Fault.field-0-is c.in-Err-Fault.ensures.fault))

pub returns-then-is_of_io-clause-fault : goal.returns-then-is_of_io-clause-fault
returns-then-is_of_io-clause-fault g c =
    let q = asked_by_rules c.args.admitted.now.roots (demand_value c.args.lists.now) c.args.rules.now in
    let alone = demand_in_io (demand_value c.args.lists.now) in
    let leaving = leaving_rest c.args.admitted.now alone c.args.rules.now c.outline-outline.ensures.admitted c.records.result.now c.records.ensures.value c.outline-outline.ensures.records
    _ c.open_windows-over.ensures c.as_slice.result.now c.as_slice.ensures.value c.as_slice.ensures.value refl c.in_ok-table.ensures.stay in
    alone_fault c.args.admitted.now q c.in-Err-Fault.unplaced c.fault_of.result
    (is_alone q (system_in c.args.admitted.now) _ leaving c.in-Err-Fault.unplaced
    (unplaced_alone c.args.admitted.now.roots (system_in c.args.admitted.now) _ c.io_alone.ensures (refused.Fault c.in-Err-Fault.unplaced)
    (subst (IsUnplacedOff c.args.admitted.now.roots (system_in c.args.admitted.now) (demand_value c.io_alone.result) _) c.in-Err-Fault.field-0-is c.in-Err-Fault.ensures.fault)))
    (class_io (kind_value (unplaced_class c.in-Err-Fault.unplaced)) (sym c.is_of_io.ensures ∙ c.if-is_of_io.true)) c.fault_of.ensures

pub returns-clause-room : goal.returns-clause-room
returns-clause-room g c =
    let q = asked_by_rules c.args.admitted.now.roots (demand_value c.args.lists.now) c.args.rules.now in
    let alone = demand_in_io (demand_value c.args.lists.now) in
    let leaving = leaving_rest c.args.admitted.now alone c.args.rules.now c.outline-outline.ensures.admitted c.records.result.now c.records.ensures.value c.outline-outline.ensures.records
    _ c.open_windows-over.ensures c.as_slice.result.now c.as_slice.ensures.value c.as_slice.ensures.value refl c.in_ok-table.ensures.stay in
    alone_room q (system_in c.args.admitted.now) c.in-Err-Fault.unplaced
    (is_alone q (system_in c.args.admitted.now) _ leaving c.in-Err-Fault.unplaced
    (unplaced_alone c.args.admitted.now.roots (system_in c.args.admitted.now) _ c.io_alone.ensures (refused.Fault c.in-Err-Fault.unplaced)
    (subst (IsUnplacedOff c.args.admitted.now.roots (system_in c.args.admitted.now) (demand_value c.io_alone.result) _) c.in-Err-Fault.field-0-is c.in-Err-Fault.ensures.fault)))
    (class_memory (kind_value (unplaced_class c.in-Err-Fault.unplaced)) (sym c.is_of_io.ensures ∙ c.if-is_of_io.false))
