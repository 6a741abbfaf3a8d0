use Rattle.std.proofs.Common.{subst}
use Rattle.pci_place.specs.Above.{system_in}
use Rattle.pci_first_fit.specs.Slots.{demand_value}
use Rattle.pci_kept.specs.Known.{asked_by_rules}
use Rattle.pci_grow.specs.Reaching.{IsTooLargeAround}
use Rattle.pci_settle.proofs.Outcomes.{large_not_grown}
use Rattle.pci_settle.proofs.growth.grown_windows.Goals as goal

pub fault_of_window-requires : goal.fault_of_window-requires
fault_of_window-requires g c =
    (subst (IsTooLargeAround (asked_by_rules c.args.admitted.now.roots (demand_value c.args.lists.now) c.args.rules.now) (system_in c.args.admitted.now)) c.in-Err-Fault.field-0-is c.in-Err-Fault.ensures.fault).0.within

pub returns-in-Err-Fault-clause-fault : goal.returns-in-Err-Fault-clause-fault
returns-in-Err-Fault-clause-fault g c =
    let q = asked_by_rules c.args.admitted.now.roots (demand_value c.args.lists.now) c.args.rules.now in
    let large = subst (IsTooLargeAround q (system_in c.args.admitted.now)) c.in-Err-Fault.field-0-is c.in-Err-Fault.ensures.fault in
    large_not_grown c.args.admitted.now q c.in-Err-Fault.window c.fault_of_window.result large.0 c.fault_of_window.ensures
