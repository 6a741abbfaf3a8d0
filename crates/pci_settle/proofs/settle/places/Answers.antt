use Rattle.std.proofs.Common.{subst}
use Rattle.pci_place.specs.Above.{system_in}
use Rattle.pci_first_fit.specs.Slots.{demand_value}
use Rattle.pci_settle_places.specs.Placed.{IsUnplacedOff}
use Rattle.pci_settle.proofs.Refusals.{named, lack_of_fault}
use Rattle.pci_settle.proofs.settle.places.Goals as goal

pub fault_of-requires : goal.fault_of-requires
fault_of-requires g c =
    named c.args.admitted.now.roots (demand_value c.args.lists.now) c.args.left.now (system_in c.args.admitted.now) c.outline-outline.ensures.admitted.system c.requires c.in-Err-Fault.unplaced
    (subst (IsUnplacedOff c.args.admitted.now.roots (system_in c.args.admitted.now) (demand_value c.args.lists.now) c.args.left.now) c.in-Err-Fault.field-0-is c.in-Err-Fault.ensures.fault)

pub returns-in-Err-Fault-clause-fault : goal.returns-in-Err-Fault-clause-fault
returns-in-Err-Fault-clause-fault g c =
    lack_of_fault c.args.admitted.now (demand_value c.args.lists.now) c.args.left.now c.in-Err-Fault.unplaced c.fault_of.result
    (subst (IsUnplacedOff c.args.admitted.now.roots (system_in c.args.admitted.now) (demand_value c.args.lists.now) c.args.left.now) c.in-Err-Fault.field-0-is c.in-Err-Fault.ensures.fault) c.fault_of.ensures
