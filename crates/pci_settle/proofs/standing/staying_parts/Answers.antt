use Rattle.std.proofs.Common.{subst}
use Rattle.std.proofs.lemmas.Result.{err_from_is_err_and}
use Rattle.pci_place.specs.Above.{system_in}
use Rattle.pci_first_fit.specs.Slots.{demand_value}
use Rattle.pci_kept.specs.Known.{asked_by_rules}
use Rattle.pci_kept.specs.Staying.{IsTooLargeFor}
use Rattle.pci_settle.proofs.Refusals.{asked_too_large, asked_io}
use Rattle.pci_settle.proofs.standing.staying_parts.Goals as goal

pub fault_of_window-requires : goal.fault_of_window-requires
fault_of_window-requires g c =
    (subst (IsTooLargeFor (asked_by_rules c.args.admitted.now.roots (demand_value c.args.lists.now) c.args.rules.now) (system_in c.args.admitted.now)) c.in-Err-Fault.field-0-is c.in-Err-Fault.ensures.fault).0.within

pub returns-in_err-place_io_unfixed-in-Err-Fault-clause-fault : goal.returns-in_err-place_io_unfixed-in-Err-Fault-clause-fault
returns-in_err-place_io_unfixed-in-Err-Fault-clause-fault g c =
    let q = asked_by_rules c.args.admitted.now.roots (demand_value c.args.lists.now) c.args.rules.now in
    let large = subst (IsTooLargeFor q (system_in c.args.admitted.now)) c.in-Err-Fault.field-0-is c.in-Err-Fault.ensures.fault in
    let p = err_from_is_err_and c.from_residual.result c.from_residual.ensures.1 in
    let lack = c.in_err-place_io_unfixed-in-Err-Fault.ensures.fault in
    rw (p.1, p.2) (asked_io c.args.admitted.now q large.1 lack.0 c.in_err-place_io_unfixed-in-Err-Fault.field-0.0 lack.1)

pub returns-in_ok-place_io_unfixed-in-Err-Fault-clause-fault : goal.returns-in_ok-place_io_unfixed-in-Err-Fault-clause-fault
returns-in_ok-place_io_unfixed-in-Err-Fault-clause-fault g c =
    let large = subst (IsTooLargeFor (asked_by_rules c.args.admitted.now.roots (demand_value c.args.lists.now) c.args.rules.now) (system_in c.args.admitted.now)) c.in-Err-Fault.field-0-is c.in-Err-Fault.ensures.fault in
    asked_too_large c.args.admitted.now (asked_by_rules c.args.admitted.now.roots (demand_value c.args.lists.now) c.args.rules.now) c.in-Err-Fault.window c.fault_of_window.result
    large.0 large.1 c.fault_of_window.ensures (λ free. c.in_ok-place_io_unfixed-in-Err-Fault.ensures.room free.0 free.1)
