use Rattle.std.proofs.Common.{rules}
use Rattle.std.proofs.lemmas.List.Sorted.{IsPartitionPoint-from_clause}
use Rattle.pci_kept.proofs.KeepingOff.{is_up_to, parted, up_to_gives, beyond_gives}
use Rattle.pci_kept.proofs.rows.rows_up_to.Goals as goal

pub returns-clause-before : goal.returns-clause-before
returns-clause-before c k d low high =
    up_to_gives c.args.key c.args.address _ _ ((IsPartitionPoint-from_clause (is_up_to c.args.key c.args.address) c.args.rows.now c.partition_point.result c.partition_point.ensures.partitioned
    (parted c.args.rows.now c.args.key c.args.address c.requires) (λ a r f q. search rules)).0 k d low high)

pub returns-clause-after : goal.returns-clause-after
returns-clause-after c k d low high =
    beyond_gives c.args.key c.args.address _ _ ((IsPartitionPoint-from_clause (is_up_to c.args.key c.args.address) c.args.rows.now c.partition_point.result c.partition_point.ensures.partitioned
    (parted c.args.rows.now c.args.key c.args.address c.requires) (λ a r f q. search rules)).1 k d low high)
