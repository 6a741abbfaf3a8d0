use Rattle.std.proofs.Common.{rules, ltb}
use Rattle.std.proofs.lemmas.Bool.{ltb-true, ltb-false}
use Rattle.std.proofs.lemmas.List.Sorted.{IsPartitionPoint-from_clause}
use Rattle.pci_spec.specs.Slot.{slot_number}
use Rattle.pci_faults.proofs.Leading.{parted_by_slot}
use Rattle.pci_faults.proofs.before.first_not_below.Goals as goal

pub returns-clause-before : goal.returns-clause-before
returns-clause-before c k d low high =
    ltb-true _ _ ((IsPartitionPoint-from_clause (λ b. ltb (slot_number b.slot) (slot_number c.args.slot)) c.args.dump.now c.partition_point.result c.partition_point.ensures.partitioned
    (parted_by_slot c.args.dump.now (slot_number c.args.slot) c.requires) (λ a r f q. search rules)).0 k d low high)

pub returns-clause-after : goal.returns-clause-after
returns-clause-after c k d low high =
    ltb-false _ _ ((IsPartitionPoint-from_clause (λ b. ltb (slot_number b.slot) (slot_number c.args.slot)) c.args.dump.now c.partition_point.result c.partition_point.ensures.partitioned
    (parted_by_slot c.args.dump.now (slot_number c.args.slot) c.requires) (λ a r f q. search rules)).1 k d low high)
