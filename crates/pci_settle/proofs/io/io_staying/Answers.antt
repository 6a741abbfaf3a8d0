use Rattle.std.proofs.Common.{subst}
use Rattle.pci_place.specs.Above.{system_in}
use Rattle.pci_first_fit.specs.Slots.{demand_value}
use Rattle.pci_kept.specs.Staying.{IsTooLargeInIo, asked_in_io}
use Rattle.pci_settle.proofs.IoFirst.{large_in_io}
use Rattle.pci_settle.proofs.io.io_staying.Goals as goal

pub fault_of_window-requires : goal.fault_of_window-requires
fault_of_window-requires g c =
    (subst (IsTooLargeInIo (asked_in_io c.args.admitted.now.roots (demand_value c.args.lists.now) c.args.rules.now) (system_in c.args.admitted.now)) c.in-Err-Fault.field-0-is c.in-Err-Fault.ensures.fault).1.within

pub returns-in-Err-Fault-clause-fault : goal.returns-in-Err-Fault-clause-fault
returns-in-Err-Fault-clause-fault g c =
    large_in_io c.args.admitted.now (asked_in_io c.args.admitted.now.roots (demand_value c.args.lists.now) c.args.rules.now) c.in-Err-Fault.window c.fault_of_window.result
    (subst (IsTooLargeInIo (asked_in_io c.args.admitted.now.roots (demand_value c.args.lists.now) c.args.rules.now) (system_in c.args.admitted.now)) c.in-Err-Fault.field-0-is c.in-Err-Fault.ensures.fault) c.fault_of_window.ensures
